-- Sets of jobs as the bits of numbers: which jobs are in them, that they rise, and one job more.
use Rattle.std.proofs.Common.{◌≡◌, ℕ, zero, suc, ◌+◌, ◌*◌, ◌/◌, ◌%◌, ◌^◌, ◌≤◌, ◌<◌, ◌⊎◌, inl, inr, List, [], ◌∷◌, ◌++◌}
use Rattle.std.proofs.Common.{length, get_or, set, drop, replicate, max, refl, sym, ◌∙◌, ap, subst, append_assoc, arith}
use Rattle.std.proofs.{lemmas.{Bool.cases_eq, List.{append-nil, length-append}, Nat.Bits.bit_at_or}, Math.Pow.pow-lt}
use Rattle.std.proofs.lemmas.Nat.Bits.{bit_at-suc, bit_at_lowest, bit_at-lt, bit_at-pow_same, bit_at-pow_other}
use Rattle.std.specs.Int.{Bits.bit_or, bit_at}
use Rattle.shop_lanes.{specs.SetBits.set_bits, proofs.MarkLemmas.{set_bits-odd, set_bits-even, set_bits-zero}}
use Rattle.shop_states.specs.inner.{JobSets.{members, HasPut}, RisingLists.{IsIn, Rises, HasGathered}}
use Rattle.shop_states.proofs.RisingLists.{rising_short}

-- two lists as one
pub in_append : (xs ys : List ℕ) (q : ℕ) → IsIn (xs ++ ys) q → IsIn xs q ⊎ IsIn ys q
in_append [] ys q h = inr h
in_append (x ∷ xs) ys q (inl e) = inl (inl e)
in_append (x ∷ xs) ys q (inr h) = grind (arith, in_append xs ys q h)

pub append_left : (xs ys : List ℕ) (q : ℕ) → IsIn xs q → IsIn (xs ++ ys) q
append_left [] ys q h = absurd h
append_left (x ∷ xs) ys q (inl e) = inl e
append_left (x ∷ xs) ys q (inr h) = inr (append_left xs ys q h)

pub append_right : (xs ys : List ℕ) (q : ℕ) → IsIn ys q → IsIn (xs ++ ys) q
append_right [] ys q h = h
append_right (x ∷ xs) ys q h = inr (append_right xs ys q h)

append_rises : (xs ys : List ℕ) → Rises xs → Rises ys → ((a b : ℕ) → IsIn xs a → IsIn ys b → a < b) → Rises (xs ++ ys)
append_rises [] ys r s lt = s
append_rises (x ∷ xs) ys r s lt = (
  (λ q h. elim (in_append xs ys q h) [
    | inl g ↦ r.0 q g
    | inr g ↦ lt x q (inl refl) g
  ]),
  append_rises xs ys r.1 s (λ a b h g. lt a b (inr h) g),
)

-- q is a set bit of the number, whose bits are counted from `at`
abbrev IsBit : ℕ → ℕ → ℕ → ℕ → Type 0
IsBit n at number q = (i : ℕ) × (i < n) × (q ≡ at + i) × (bit_at number i ≡ 1)

later_bit : (n at number q : ℕ) → IsBit n (at + 1) (number / 2) q → IsBit (suc n) at number q
later_bit n at number q b =
    (suc b.0, (let a = b.1 in omega arith), (let a = b.2 in omega arith), bit_at-suc number b.0 ∙ b.3)

in_none : (at number q : ℕ) → IsIn (set_bits zero at number) q → ⊥
unfolding set_bits
in_none at number q h = h

in_bits : (n at number q : ℕ) → IsIn (set_bits n at number) q → IsBit n at number q
in_bits zero at number q h = absurd (in_none at number q h)
in_bits (suc n) at number q h = elim (cases_eq (number % 2) 1) [
  | inl odd ↦ elim (subst (λ (xs : List ℕ). IsIn xs q) (set_bits-odd n at number odd) h) [
    | inl e ↦ (zero, omega arith, omega arith, bit_at_lowest number ∙ odd)
    | inr g ↦ later_bit n at number q (in_bits n (at + 1) (number / 2) q g)
  ]
  | inr other ↦ grind (arith, later_bit, set_bits-even, in_bits n (at + 1) (number / 2) q)
]

bits_in : (n at number i : ℕ) → i < n → bit_at number i ≡ 1 → IsIn (set_bits n at number) (at + i)
bits_in zero at number i lt is = absurd (omega arith)
bits_in (suc n) at number zero lt is = grind (arith, set_bits-odd, bit_at_lowest)
bits_in (suc n) at number (suc i) lt is =
    grind (
      arith,
      bit_at-suc,
      cases_eq,
      set_bits-odd,
      set_bits-even,
      bits_in n (at + 1) (number / 2) i (omega arith) (sym (bit_at-suc number i) ∙ is),
    )

none_rise : (at number : ℕ) → Rises (set_bits zero at number)
unfolding set_bits
none_rise at number = tt

bits_rise : (n at number : ℕ) → Rises (set_bits n at number)
bits_rise zero at number = none_rise at number
bits_rise (suc n) at number =
    grind (arith, cases_eq, set_bits-odd, in_bits, set_bits-even, bits_rise n (at + 1) (number / 2))

members_from : (at : ℕ) (numbers : List ℕ) (q : ℕ) → IsIn (members at numbers) q → at ≤ q
members_from at [] q h = absurd h
members_from at (number ∷ numbers) q h = elim (in_append (set_bits 64 at number) (members (at + 64) numbers) q h) [
  | inl g ↦ (let b = in_bits 64 at number q g in let a = b.2 in omega arith)
  | inr g ↦ (let a = members_from (at + 64) numbers q g in omega arith)
]

pub members_rise : (at : ℕ) (numbers : List ℕ) → Rises (members at numbers)
members_rise at [] = tt
members_rise at (number ∷ numbers) =
    grind (arith, append_rises, bits_rise, in_bits, members_from, members_rise (at + 64) numbers)

-- one bit more
one_of_two : (a b c : ℕ) → c ≡ max a b → c < 2 → a ≡ 1 → c ≡ 1
one_of_two a b c e small one = omega arith

other_of_two : (a b c : ℕ) → c ≡ max a b → c ≡ 1 → a ≡ 0 → b ≡ 1
other_of_two a b c e one none = omega arith

no_bit : (a : ℕ) → a < 2 → (a ≡ 1 → ⊥) → a ≡ 0
no_bit a small other = omega arith

pub bit_put : (at number k : ℕ) → k < 64
    → HasPut (at + k) (set_bits 64 at number) (set_bits 64 at (bit_or number (2 ^ k)))
bit_put at number k lt =
    grind (
      arith,
      in_bits,
      bits_in,
      one_of_two,
      bit_at_or,
      bit_at-lt,
      bit_at-pow_same,
      cases_eq,
      other_of_two,
      no_bit,
      bit_at-pow_other,
    )

-- what is put into a part is put into the whole
pub more_behind : (P : ℕ → Type 0) (old new rest : List ℕ) → HasGathered P old new → HasGathered P (old ++ rest)
    (new ++ rest)
more_behind P old new rest put = grind (arith, in_append, append_left, append_right)

pub more_before : (P : ℕ → Type 0) (old new first : List ℕ) → HasGathered P old new
    → HasGathered P (first ++ old) (first ++ new)
more_before P old new first put = grind (arith, in_append, append_left, append_right)

member_put : (at : ℕ) (numbers : List ℕ) (i k : ℕ) → i < length numbers → k < 64
    → HasPut (at + (64 * i + k)) (members at numbers)
    (members at (set numbers i (bit_or (get_or numbers i 0) (2 ^ k))))
member_put at [] i k within lt = absurd (omega arith)
member_put at (number ∷ numbers) zero k within lt =
    let e : at + k ≡ at + (64 * zero + k) = omega arith
    in more_behind (λ q. q ≡ at + (64 * zero + k)) (set_bits 64 at number)
    (set_bits 64 at (bit_or number (2 ^ k))) (members (at + 64) numbers)
    (subst (λ (n : ℕ). HasPut n (set_bits 64 at number)
    (set_bits 64 at (bit_or number (2 ^ k)))) e (bit_put at number k lt))
member_put at (number ∷ numbers) (suc i) k within lt =
    grind (arith, more_before, member_put (at + 64) numbers i k (omega arith) lt)

small_shift : (x : ℕ) → x < 2 ^ 64 → 1 * x % 2 ^ 64 ≡ x
small_shift x small = omega arith

put_bit : (numbers : List ℕ) (job bit : ℕ) → job < 64 * length numbers → bit ≡ 2 ^ (job % 64)
    → HasPut job (members 0 numbers) (members 0 (set numbers (job / 64) (bit_or (get_or numbers (job / 64) 0) bit)))
put_bit numbers job bit within is =
    let e : 0 + (64 * (job / 64) + job % 64) ≡ job = omega arith
    in subst (λ (x : ℕ). HasPut job (members 0 numbers)
    (members 0 (set numbers (job / 64) (bit_or (get_or numbers (job / 64) 0) x)))) (sym is)
    (subst (λ (n : ℕ). HasPut n (members 0 numbers)
    (members 0 (set numbers (job / 64) (bit_or (get_or numbers (job / 64) 0) (2 ^ (job % 64)))))) e
    (member_put 0 numbers (job / 64) (job % 64) (omega arith) (omega arith)))

-- a job put into a set
pub put_in : (numbers : List ℕ) (job number : ℕ) → job < 64 * length numbers → number ≡ job / 64
    → HasPut job (members 0 numbers)
    (members 0 (set numbers number (bit_or (get_or numbers number 0) (1 * 2 ^ (job % 64) % 2 ^ 64))))
put_in numbers job number within at =
    subst (λ (i : ℕ). HasPut job (members 0 numbers)
    (members 0 (set numbers i (bit_or (get_or numbers i 0) (1 * 2 ^ (job % 64) % 2 ^ 64))))) (sym at)
    (put_bit numbers job (1 * 2 ^ (job % 64) % 2 ^ 64) within
    (small_shift (2 ^ (job % 64)) (pow-lt {i = job % 64} {j = 64} (omega arith))))

pub no_members : (n at : ℕ) → members at (replicate n 0) ≡ []
no_members zero at = refl
no_members (suc n) at = grind (arith, set_bits-zero, no_members n (at + 64))

next_number : (at i : ℕ) (numbers : List ℕ) → i < length numbers
    → members at (drop i numbers) ≡ set_bits 64 at (get_or numbers i 0) ++ members (at + 64) (drop (suc i) numbers)
next_number at i [] within = absurd (omega arith)
next_number at zero (number ∷ numbers) within = refl
next_number at (suc i) (number ∷ numbers) within = next_number at i numbers (omega arith)

pub few_members : (numbers : List ℕ) (count : ℕ) → ((j : ℕ) → IsIn (members 0 numbers) j → j < count)
    → length (members 0 numbers) ≤ count
few_members numbers count below =
    let all = rising_short (members 0 numbers) 0 count (omega arith) (members_rise 0 numbers)
    (λ q h. (omega arith, below q h)) in omega arith

module _ (numbers : List ℕ) (count : ℕ) (below : (j : ℕ) → IsIn (members 0 numbers) j → j < count)
    (i : ℕ) (jobs : List ℕ) (so_far : jobs ++ members (64 * i) (drop i numbers) ≡ members 0 numbers) where
  pub room_for_number : (room : ℕ) → i < length numbers → count ≤ room
      → length jobs + length (set_bits 64 (64 * i) (get_or numbers i 0)) ≤ room
  room_for_number room within enough =
      let all = few_members numbers count below
      in let left = members (64 * i) (drop i numbers)
      in let number = set_bits 64 (64 * i) (get_or numbers i 0)
      in let rest = members (64 * i + 64) (drop (suc i) numbers)
      in let a = length-append jobs left
      in let b = ap (λ (l : List ℕ). length l) so_far
      in let d = ap (λ (l : List ℕ). length l) (next_number (64 * i) i numbers within)
      in let e = length-append number rest
      in omega arith

  pub in_number : i < length numbers → (q : ℕ) → IsIn (set_bits 64 (64 * i) (get_or numbers i 0)) q
      → IsIn (members 0 numbers) q
  in_number within q h = grind (arith, append_right, next_number, append_left)

-- the jobs of one number more
pub number_more : (numbers : List ℕ) (i : ℕ) (done jobs : List ℕ) → i < length numbers
    → jobs ≡ set_bits 64 (64 * i) (get_or numbers i 0)
    → done ++ members (64 * i) (drop i numbers) ≡ members 0 numbers
    → (done ++ jobs) ++ members (64 * (i + 1)) (drop (i + 1) numbers) ≡ members 0 numbers
number_more numbers i done jobs within is so_far = grind (arith, next_number, append_assoc)

drop_all : (i : ℕ) (numbers : List ℕ) → length numbers ≤ i → drop i numbers ≡ []
drop_all zero [] past = refl
drop_all zero (number ∷ numbers) past = absurd (omega arith)
drop_all (suc i) [] past = refl
drop_all (suc i) (number ∷ numbers) past = drop_all i numbers (omega arith)

pub all_numbers : (numbers : List ℕ) (i : ℕ) (done : List ℕ) → length numbers ≤ i
    → done ++ members (64 * i) (drop i numbers) ≡ members 0 numbers → done ≡ members 0 numbers
all_numbers numbers i done past so_far = grind (arith, append-nil, drop_all)
