use Rattle.std.proofs.{Common.{arith, sym}, lemmas.Grind.common_steps}
use Rattle.shop_model.proofs.GivenLemmas.{release_of-rows}
use Rattle.shop_model.proofs.instances.Instance.release.Goals as goal

pub returns-in-Rows : goal.returns-in-Rows
returns-in-Rows c = rw (← c.self.view_is, c.in-Rows.is) (sym (release_of-rows c.in-Rows.field-0.items c.args.j))

pub returns-in-Jobs : goal.returns-in-Jobs
returns-in-Jobs c = grind (arith, common_steps)
