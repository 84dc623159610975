-- Lists reversed, what holds of all of their elements, and of calls that succeed.
use Rattle.std.proofs.Common.{arith, ◌≡◌, All, Bool, false, true, if◌then◌else◌, List, [], ◌∷◌, ◌++◌, reverse}
use Rattle.std.proofs.Common.{Result, Ok, Err, OnOk}
use Rattle.std.{proofs.lemmas.List.{reverse-append, Elements.All-push}, specs.List.AllByRecursion}
use Rattle.shop_bound.proofs.Lists.{all_append}

pub reverse-cons : {A : Type 0} (x : A) (xs : List A) → reverse (x ∷ xs) ≡ reverse xs ++ x ∷ []
reverse-cons x xs = reverse-append (x ∷ []) xs

module _ {A : Type 0} (P : A → Type 0) where
  pub all_front : (xs ys : List A) → AllByRecursion P (xs ++ ys) → AllByRecursion P xs
  all_front [] ys a = tt
  all_front (x ∷ xs) ys a = (a.0, all_front xs ys a.1)

  pub all_back : (xs ys : List A) → AllByRecursion P (xs ++ ys) → AllByRecursion P ys
  all_back [] ys a = a
  all_back (x ∷ xs) ys a = all_back xs ys a.1

  pub all_reverse : (xs : List A) → AllByRecursion P xs → AllByRecursion P (reverse xs)
  all_reverse [] a = tt
  all_reverse (x ∷ xs) a = grind (arith, reverse-cons, all_append, all_reverse xs a.1)

-- what holds where a call succeeds
pub on_ok : {T E : Type 0} (P Q : Type 0) → (P → Q) → (r : Result T E) → OnOk r P → OnOk r Q
on_ok P Q f (Ok x) h = f h
on_ok P Q f (Err e) h = tt

-- what holds of each element, after a push that may fail
pub all_pushed : {A : Type 0} (P : A → Type 0) (xs : List A) (x : A) (done : Bool) → All P xs → P x
    → All P (if done then xs ++ x ∷ [] else xs)
all_pushed P xs x true all own = All-push P xs x all own
all_pushed P xs x false all own = all
