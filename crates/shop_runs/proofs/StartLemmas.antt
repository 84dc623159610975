-- Where a search begins: the empty word is open where its bound is below the makespan.
use Rattle.std.proofs.Common.{◌≡◌, ℕ, ◌≤◌, ◌<◌, List, [], ◌∷◌, sym, ◌∙◌, ap, subst, arith, cond, ltb}
use Rattle.std.proofs.lemmas.Bool.{lt-ltb, le-ltb}
use Rattle.shop_model.specs.{Shop.Shop, Word.start_jobs}
use Rattle.shop_bound.specs.Bound.{lb}
use Rattle.shop_nodes.specs.{declared.nodes.Node.Node, Nodes.{words_of, AreNodes}}
use Rattle.shop_runs.{specs.{Round.{Stand, words_below}, Laws.StandsCovering}, proofs.Covering.opens_covering}

module _ (shop : Shop) (makespan : ℕ) (root : Node) (e : makespan ≡ lb shop (start_jobs shop)) (w : root.word ≡ [])
    (b : root.bound ≡ lb shop []) where
  root_test : ltb (lb shop []) (lb shop (start_jobs shop)) ≡ ltb root.bound makespan
  root_test = (λ i. ltb (sym b i) (sym e i))

  pub open_root : root.bound < makespan → words_of (root ∷ []) ≡ words_below shop (lb shop (start_jobs shop)) ([] ∷ [])
  open_root h = (λ i. w i ∷ []) ∙ sym (ap (λ t. cond t ([] ∷ []) []) (root_test ∙ lt-ltb root.bound makespan h))

  pub closed_root : makespan ≤ root.bound → [] ≡ words_below shop (lb shop (start_jobs shop)) ([] ∷ [])
  closed_root h = sym (ap (λ t. cond t ([] ∷ []) []) (root_test ∙ le-ltb root.bound makespan h))

-- none, or the empty word, as nodes
pub no_nodes : (shop : Shop) → AreNodes shop []
no_nodes shop = λ k d h. absurd (omega arith)

pub root_node : (shop : Shop) (root : Node) → root.word ≡ [] → root.bound ≡ lb shop [] → AreNodes shop (root ∷ [])
root_node shop root w b = grind (arith, no_nodes)

abbrev pub standing_of : List ℕ → List (List ℕ) → Stand
standing_of word words = record { word = word; open_words = words; rounds = 0; nodes = 0 }

pub start_covers : (shop : Shop) (word : List ℕ) (open_words : List (List ℕ)) → word ≡ start_jobs shop
    → open_words ≡ words_below shop (lb shop (start_jobs shop)) ([] ∷ [])
    → StandsCovering shop (standing_of word open_words)
start_covers shop word open_words e f =
    subst (StandsCovering shop) (λ i. standing_of (sym e i) (sym f i)) (opens_covering shop)
