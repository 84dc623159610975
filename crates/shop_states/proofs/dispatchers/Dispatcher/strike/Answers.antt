use Rattle.std.proofs.Common.{◌∙◌, refl, sym}
use Rattle.shop_states.proofs.{AskedStates.{kept_on, set_there}, ReadStates.kept_read}
use Rattle.shop_states.proofs.AskedStates.{kept_of}
use Rattle.shop_states.specs.inner.WordStates.{of_word}
use Rattle.shop_states.proofs.dispatchers.Dispatcher.strike.Goals as goal

pub strike-requires : goal.strike-requires
strike-requires g c =
    let has = rw (← c.self.view_is) at c.requires
    in record {
      shop = c.self.inside.laid_out.shop;
      word = has.word;
      kept = kept_read c.grid.ensures.grid refl (kept_of has.is).kept;
      sole = set_there (kept_of has.is) ∙ has.sole;
    }

pub returns : goal.returns
returns g c = rw (← c.self.view_is) (λ w of alone. of_word (kept_on (kept_of of)
    (kept_read (sym c.grid.ensures.grid) refl (c.strike.ensures c.self.inside.laid_out.shop w
    (kept_read c.grid.ensures.grid refl (kept_of of).kept) (set_there (kept_of of) ∙ alone)))))
