-- The report of a plan's answer.
use Rattle.std.specs.Prelude.{length}
use Rattle.shop_model.specs.Word.{placed, rows_of}
use Rattle.shop_text.specs.{Texts.NamedShop, Writing.Reported}
use Rattle.shop_runs.specs.{Round.{Planned, makespan_of}, Answers.{answer, bound_of}}

-- the answer of the plan on the instance, whatever crew searches: the table of its best word
abbrev pub answer_of : NamedShop → Planned → Reported
answer_of asked plan =
    let s = answer asked.shop plan
    in record {
      name = asked.name;
      shop = asked.shop;
      table = rows_of asked.shop (placed asked.shop s.word);
      makespan = makespan_of asked.shop s;
      bound = bound_of asked.shop s;
      open_nodes = length s.open_words;
      rounds = s.rounds;
      nodes = s.nodes;
    }
