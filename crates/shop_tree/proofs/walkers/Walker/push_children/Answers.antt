use Rattle.std.proofs.Common.{◌≡◌, ◌<◌, ◌++◌, ◌∙◌, List, ap, length, map, subst, sym, arith}
use Rattle.std.proofs.lemmas.List.{length-append}
use Rattle.shop_model.{specs.{Shop.{operation_count}, Word.IsWord}, proofs.WordLengths.word_length}
use Rattle.shop_tree.specs.{declared.held.Held.Held, inner.Held.{held, opens_in, pending_in}}
use Rattle.shop_tree.specs.inner.{WalkStates.{IsStateIn, Lists}, StateWalkers.stage_of, Walkers.HasBranched}
use Rattle.shop_bound.specs.Bound.{lb}
use Rattle.shop_tree.proofs.{ListLemmas.on_ok, AddLemmas.few_open, ExpandLemmas.branched, ListedLemmas.few_closed}
use Rattle.shop_tree.proofs.{HeldLemmas.{rest_long, pending_put}, StateSteps.held_branched}
use Rattle.shop_states.specs.declared.states.State.{State}
use Rattle.shop_states.proofs.AskedStates.{limits_of, word_of}
use Rattle.shop_tree.proofs.walkers.Walker.push_children.Goals as goal

pub put_rest-requires : goal.put_rest-requires
put_rest-requires g c =
    let self = c.args.self.now in let d = self.states.dispatcher.laid_out in let word = self.path.items
    in let limits = limits_of c.requires.listed.at.state
    in let most = word_length (d.asked) word limits
    (word_of c.requires.listed.at.state)
    in let few = few_closed c.requires.listed.candidates
    in let jobs = limits.jobs in let b = c.len-depth.ensures in let e = self.path.ok.0
    in record { depth = omega arith; count = omega arith }

pub set_rest_below-requires : goal.set_rest_below-requires
set_rest_below-requires g c =
    let self = c.args.self.now in let d = self.states.dispatcher.laid_out in let word = self.path.items
    in let old = self.stack.items in let put = c.in_ok-all.ensures.children.put
    in let a = ap (λ (hs : List (Held (State g.row.L.Denot g.row.L-Number.Denot))). length hs) put.stack
    in let b = length-append c.put_rest.new.stack.items (map held put.kids)
    in let e = ap (λ (hs : List (Held (State g.row.L.Denot g.row.L-Number.Denot))). length hs) c.in_ok-put_rest.ensures
    in let f = rest_long old c.len-depth.result c.args.closed
    in let h = c.len-below.ensures in let i = self.stack.ok.0
    in let limits = limits_of c.requires.listed.at.state
    in let most = word_length (d.asked) word limits
    (word_of c.requires.listed.at.state)
    in let few = few_open put.children
    in let jobs = limits.jobs in let k = c.len-depth.ensures in let n = self.path.ok.0
    in record {
      index = omega arith;
      depth = omega arith;
      more = c.in_ok-all.ensures.children.more;
      count = omega arith;
    }

pub returns-clause-branched : goal.returns-clause-branched
returns-clause-branched g c =
    let self = c.args.self.now in let d = self.states.dispatcher.laid_out in let word = self.path.items
    in let best = self.incumbent in let put = c.in_ok-all.ensures.children.put in let opens = opens_in put.kids
    in let n = c.in_ok-all.all
    in let kids = rw (self.same_shop, c.as_slice.ensures.value) at put.children
    in let is : IsWord self.instance.now word = subst (λ x. IsWord x word) self.same_shop
    (word_of c.requires.listed.at.state)
    in let short : length word < operation_count self.instance.now = (let a = c.requires.listed.short
    in let b = self.counted in omega arith)
    in let depth : c.len-depth.result ≡ length word = (let a = c.len-depth.ensures in let b = self.path.ok.0
    in omega arith)
    in let index : c.len-below.result ≡ length self.stack.items = (let a = c.len-below.ensures
    in let b = self.stack.ok.0 in omega arith)
    in let before = put.stack
    ∙ ap (λ (hs : List (Held (State g.row.L.Denot g.row.L-Number.Denot))). hs ++ map held put.kids)
    c.in_ok-put_rest.ensures
    in let stack = c.set_rest_below.new.stack.items
    in on_ok _ (HasBranched (stage_of self) (record (stage_of self) { stack = pending_in stack }))
    (λ e. branched (stage_of self) opens n c.len-depth.result (pending_in stack) is short kids depth
    (pending_put self.stack.items put.kids stack c.len-depth.result n
    (e self.stack.items (map held put.kids) index before)))
    c.set_rest_below.result c.set_rest_below.ensures

pub returns-clause-states : goal.returns-clause-states
returns-clause-states g c = grind (arith, on_ok, held_branched)

pub try_candidates-requires : goal.try_candidates-requires
try_candidates-requires g c =
    let self = c.args.self.now in let at = c.requires.listed.at in let s = self.states
    in let word = sym c.as_slice.ensures.value
    in record {
      branching = record {
        state = subst (IsStateIn s) word at.state;
        bound = at.bound ∙ (ap (λ x. lb x self.path.items) (sym self.same_shop)
            ∙ ap (lb s.dispatcher.laid_out.asked) word);
        listed = subst (λ v. Lists s v self.incumbent c.as_slice-candidates.result.now c.args.closed) word
            (subst (λ cs. Lists s self.path.items self.incumbent cs c.args.closed) (sym c.as_slice-candidates.ensures)
            c.requires.listed.candidates);
      };
    }
