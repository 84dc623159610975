use Rattle.std.proofs.Common.{rules}
use Rattle.shop_exports.proofs.Calls.{list_refused}
use Rattle.shop_exports.proofs.exports.shop_exports_list.Goals as goal

pub returns-in-Err : goal.returns-in-Err
returns-in-Err c = list_refused c.in-Some.format c.in-Err.fault c.in-Some.ensures c.in-Err.ensures.refused
    c.refused.ensures

pub returns-in-Ok : goal.returns-in-Ok
returns-in-Ok c = search rules
