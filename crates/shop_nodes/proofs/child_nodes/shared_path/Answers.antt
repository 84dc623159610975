use Rattle.shop_model.proofs.WordLengths.{word_shared}
use Rattle.shop_nodes.proofs.child_nodes.shared_path.Goals as goal

pub write_to-requires : goal.write_to-requires
write_to-requires c = word_shared c.args.instance.now c.args.word.now c.keeps_limits.ensures c.requires
