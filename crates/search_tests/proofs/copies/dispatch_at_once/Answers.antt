use Rattle.std.proofs.{Common.sym, lemmas.Bool.true≢false}
use Rattle.search_tests.proofs.copies.dispatch_at_once.Goals as goal

pub dispatch_in_copy-requires-clause-can : goal.dispatch_in_copy-requires-clause-can
dispatch_in_copy-requires-clause-can g c =
    let can = c.requires.can
    in record {
      word = can.word;
      is = (can.is.0, λ known. rw c.in-Some.is at can.is.1);
      fits = can.fits;
      bound_is = can.bound_is;
    }

pub dispatch_in_copy-requires-in-None-clause-can : goal.dispatch_in_copy-requires-in-None-clause-can
dispatch_in_copy-requires-in-None-clause-can g c =
    let can = c.requires.can
    in record {
      word = can.word;
      is = (can.is.0, λ known. absurd (true≢false (sym known)));
      fits = can.fits;
      bound_is = can.bound_is;
    }
