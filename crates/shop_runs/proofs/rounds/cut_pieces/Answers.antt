use Rattle.std.proofs.Common.{◌≡◌, ◌+◌, ◌-◌, ◌*◌, ◌≤◌, ◌<◌, ◌++◌, [], ◌∷◌, length, drop, subst, sym, ◌∙◌, ap, arith}
use Rattle.std.proofs.{Common.eqb-true, lemmas.List.{length_push, drop-drop}, Math.{Nat.mul-le-mul_right, Seq.drop-nil}}
use Rattle.shop_nodes.specs.declared.pieces.Piece.{Piece}
use Rattle.shop_runs.{specs.{Round.cut_into, inner.Stores.open_list}, proofs.PieceLemmas.{some_open, numbered_more}}
use Rattle.shop_runs.proofs.PieceLemmas.{cut_turn, cut_empty, cut_last, take_some, take_none, all_taken}
use Rattle.shop_runs.proofs.rounds.cut_pieces.Goals as goal
use Rattle.shop_runs.proofs.rounds.cut_pieces.Goals.{else-loop-number-test}
use Rattle.shop_runs.proofs.rounds.cut_pieces.Goals.{then-loop-number-test+in_ok-take+then-is_empty}

pub loop-number-preserved : goal.loop-number-preserved
loop-number-preserved c =
    let was = c.loop-number.invariant
    in let ps = c.loop-number.pieces.items
    in let n = c.loop-number.number
    in let size = c.args.size
    in let p = c.new.result
    in let piece = c.take.new.taken
    in let rest = open_list c.loop-number.store
    in let all = open_list c.args.store.now
    in let many = was.many
    in let more : c.push.new.self.items ≡ ps ++ p ∷ [] = c.in_ok-push.ensures.items
    in let nodes : p.nodes.items ≡ piece.items = ap (λ (q : Piece). q.nodes.items) c.new.ensures
    in let number : p.number ≡ n = ap (λ (q : Piece). q.number) c.new.ensures
    in let len = piece.ok.0
    in let some : 0 < length piece.items = some_open piece.len (length piece.items) (omega arith) c.if-is_empty.ensures
    in let turn = cut_turn ps p n size rest (open_list c.take.new.self) all
    c.loop-number-test.true (take_some size rest (subst (λ ns. 0 < length ns) c.in_ok-take.ensures.1 some))
    (nodes ∙ c.in_ok-take.ensures.1) c.in_ok-take.ensures.2 was.nodes
    in let times : n * size + size ≡ (n + 1) * size = omega arith
    in let left : open_list c.take.new.self ≡ drop ((n + 1) * size) all =
    c.in_ok-take.ensures.2 ∙ (ap (drop size) was.left ∙ (drop-drop size (n * size) all ∙ ap (λ k. drop k all) times))
    in grind (arith, length_push, numbered_more)

pub returns-clause-nodes : goal.returns-clause-nodes
returns-clause-nodes c =
    let was = c.loop-number.invariant
    in let ps = c.loop-number.pieces.items
    in let n = c.loop-number.number
    in let rest = open_list c.loop-number.store
    in let all = cut_into 256 c.args.size (open_list c.args.store.now)
    in elim c.loop-number-test.branch [
      | else-loop-number-test w ↦ (let h = w.loop-number-test.false
          in cut_last ps (256 - n) c.args.size rest all (omega arith) was.nodes)
      | then-loop-number-test+in_ok-take+then-is_empty w ↦
          (let piece = w.take.new.taken
          in let len = piece.ok.0
          in let none = eqb-true piece.len 0 (sym w.if-is_empty.ensures)
          in let e : length piece.items ≡ 0 = omega arith
          in cut_empty ps (256 - n) c.args.size rest all
          (take_none c.args.size rest c.requires (sym (ap length w.in_ok-take.ensures.1) ∙ e)) was.nodes)
    ]

pub returns-clause-left : goal.returns-clause-left
returns-clause-left c =
    let was = c.loop-number.invariant
    in let n = c.loop-number.number
    in let rest = open_list c.loop-number.store
    in let all = open_list c.args.store.now
    in elim c.loop-number-test.branch [
      | else-loop-number-test w ↦ (let h = w.loop-number-test.false
          in let last : n ≡ 256 = omega arith
          in ap open_list w.store-is ∙ (was.left ∙ ap (λ k. drop (k * c.args.size) all) last))
      | then-loop-number-test+in_ok-take+then-is_empty w ↦
          (let piece = w.take.new.taken
          in let len = piece.ok.0
          in let empty = eqb-true piece.len 0 (sym w.if-is_empty.ensures)
          in let e : length piece.items ≡ 0 = omega arith
          in let none = take_none c.args.size rest c.requires (sym (ap length w.in_ok-take.ensures.1) ∙ e)
          in let within : n * c.args.size ≤ 256 * c.args.size = mul-le-mul_right c.args.size (omega arith)
          in let done = all_taken all (n * c.args.size) (256 * c.args.size) (sym was.left ∙ none) within
          in ap open_list w.store-is ∙ (w.in_ok-take.ensures.2 ∙ (ap (drop c.args.size) none
          ∙ (drop-nil c.args.size ∙ done.1))))
    ]

pub returns-clause-order : goal.returns-clause-order
returns-clause-order c = grind arith
