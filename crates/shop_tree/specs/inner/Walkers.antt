-- Where a walk stands, and what its turns come to.
--     Stage                the instance, the word that the walk came to, what it carries, and what is pending on its
--                          stack
--     stack_walk s         the walk of all that is pending
--     walk_on s            the walk that goes on from the word, and then from what is pending
--     IsInOrder s          all that is pending is told rightly
--     on_top s x           stage s with x on top of what is pending
--     spent_one t          the walk t with one of its budget spent
--     gone_on s job        stage s with the job appended to its word, and one of the budget spent
--     turns_left s         more turns than this can't come
--     HasFollowed s t      the walk went on along words that have one open child alone
--     HasBranched s t      the children of the word lie on the stack
--     HasExpanded s t      what is pending afterwards comes to where the walk goes on from the word, and then from what
--                          was pending before
--     IsTurn s x t         what is pending afterwards comes to the walk of x on top of what was pending before, and
--                          there is less to do
--     HasWalked s t whole  all that is left of this walk is pending: nothing, unless the budget has ended
use Rattle.std.specs.Prelude.{◌≡◌, ℕ, ◌+◌, ◌-◌, ◌*◌, ◌≤◌, ◌<◌, List, [], ◌∷◌, ◌++◌, length, drop, fold}
use Rattle.shop_model.specs.Shop.{Shop}
use Rattle.shop_tree.specs.inner.{Opens.ArePending, Searching.{walk_stack, Adds, entered}}
use Rattle.shop_nodes.specs.{Walking.{Walk, walk}, Nodes.words_of, declared.{nodes.Node.Node, halts.Pending.Pending}}

pub record Stage : Type 0 where
  pub shop : Shop
  pub word : List ℕ
  pub walk : Walk
  pub stack : List Pending

abbrev pub stack_walk : Stage → Walk
stack_walk s = walk_stack s.shop s.word s.walk s.stack

abbrev pub walk_on : Stage → Walk
walk_on s = walk_stack s.shop s.word (entered s.shop s.walk s.word) s.stack

-- the walk of one node
abbrev pub node_walk : Stage → Node → Walk
node_walk s node = walk s.shop s.walk node.word

abbrev pub IsInOrder : Stage → Type 0
IsInOrder s = ArePending s.shop s.walk.best s.word s.stack

abbrev pub on_top : Stage → Pending → Stage
on_top s x = record s { stack = s.stack ++ x ∷ [] }

abbrev pub spent_one : Walk → Walk
spent_one t = record t { budget = t.budget - 1 }

abbrev pub gone_on : Stage → ℕ → Stage
gone_on s job = record s { word = s.word ++ job ∷ []; walk = spent_one s.walk }

abbrev pub turns_left : Stage → ℕ
turns_left s = s.walk.budget * (length s.shop.jobs + 2) + length s.stack

pub record HasFollowed (s t : Stage) : Type 0 where
  pub walk : walk_on t ≡ walk_on s
  pub shop : t.shop ≡ s.shop
  pub spent : t.walk.budget ≤ s.walk.budget
  pub fewer : turns_left t ≤ turns_left s

pub record HasBranched (s t : Stage) : Type 0 where
  pub stack : Adds s.shop s.walk.best s.word s.stack t.stack
  pub few : length t.stack ≤ length s.stack + length s.shop.jobs + 1
  pub same : t ≡ record s { stack = t.stack }

pub record HasExpanded (s t : Stage) : Type 0 where
  pub walk : stack_walk t ≡ walk_on s
  pub in_order : IsInOrder t
  pub fewer : turns_left t ≤ turns_left s + length s.shop.jobs + 1
  pub shop : t.shop ≡ s.shop
  pub spent : t.walk.budget ≤ s.walk.budget

pub record IsTurn (s : Stage) (x : Pending) (t : Stage) : Type 0 where
  pub walk : stack_walk t ≡ stack_walk (on_top s x)
  pub in_order : IsInOrder t
  pub fewer : turns_left t < turns_left (on_top s x)
  pub shop : t.shop ≡ s.shop
  pub spent : t.walk.budget ≤ s.walk.budget

pub record HasWalked (s t : Stage) (whole : Walk) : Type 0 where
  pub walk : stack_walk t ≡ whole
  pub in_order : IsInOrder t
  pub shop : t.shop ≡ s.shop
  pub spent : t.walk.budget ≤ s.walk.budget
  pub done : 0 < t.walk.budget → t.stack ≡ []

-- the first k nodes were walked, or no budget is left for the others
pub record HasWalkedUpTo (s t : Stage) (nodes : List Node) (k : ℕ) : Type 0 where
  pub within : k ≤ length nodes
  pub walk : fold (walk t.shop) (stack_walk t) (words_of (drop k nodes)) ≡ fold (walk s.shop) s.walk (words_of nodes)
  pub in_order : IsInOrder t
  pub shop : t.shop ≡ s.shop
  pub spent : t.walk.budget ≤ s.walk.budget
  pub done : 0 < t.walk.budget → t.stack ≡ []
