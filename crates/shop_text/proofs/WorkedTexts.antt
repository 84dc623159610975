-- Worked texts, computed from the definitions.
use Rattle.std.proofs.Common.{◌≡◌, ℕ, List, [], ◌∷◌, ◌++◌, map, take, refl}
use Rattle.std.specs.{Fmt.decimal, Prelude.{codes, Option, Some, None}}
use Rattle.shop_model.specs.{declared.ops.Op.Op, Shop.{Shop, ShopJob}}
use Rattle.shop_text.specs.{Lines.{Numbers, numbered_lines}, Formats.{orlib, taillard, routes}}
use Rattle.shop_text.specs.{Texts.{NamedShop, IsText, IsTextFault}, declared.faults.ReadFault.ReadFault}
use Rattle.shop_text.specs.declared.faults.ReadFault.TheVariants.{NoInstance, BadShape, BadSize, BadRow, Truncated}
use Rattle.shop_text.specs.declared.faults.ReadFault.TheVariants.{BadMachine, BadTime}
use Rattle.shop_text.specs.declared.formats.Format.TheVariants.{Orlib, Taillard, Routes}
use Rattle.shop_text.proofs.Computing.{fault_in, has_fault, is_read_as}

-- a text of these lines
abbrev joined : List (List ℕ) → List ℕ
joined [] = []
joined (line ∷ lines) = line ++ 10 ∷ joined lines

abbrev op : ℕ → ℕ → Op
op m p = record { machine = m; time = p }

abbrev job : ℕ → List Op → ShopJob
job r ops = record { release = r; route = ops }

abbrev named : List ℕ → Shop → NamedShop
named name shop = record { name = name; shop = shop }

-- ---- orlib

abbrev text_a : List ℕ
text_a = joined (codes "2 2" ∷ codes "0 3 1 2" ∷ codes "1 2 0 4" ∷ [])

abbrev shop_a : Shop
shop_a = record { machines = 2; jobs = job 0 (op 0 3 ∷ op 1 2 ∷ []) ∷ job 0 (op 1 2 ∷ op 0 4 ∷ []) ∷ [] }

lines_a : numbered_lines text_a
    ≡ (1, Numbers (2 ∷ 2 ∷ [])) ∷ (2, Numbers (0 ∷ 3 ∷ 1 ∷ 2 ∷ [])) ∷ (3, Numbers (1 ∷ 2 ∷ 0 ∷ 4 ∷ [])) ∷ []
lines_a = refl

accepted_a : IsText orlib text_a (named (decimal 1) shop_a ∷ [])
accepted_a = is_read_as Orlib text_a (named (decimal 1) shop_a ∷ []) refl refl refl

-- cut after each byte
abbrev answer_at : ℕ → Option ReadFault
answer_at n = fault_in orlib (take n text_a)

cut_0_to_6 : map answer_at (0 ∷ 1 ∷ 2 ∷ 3 ∷ 4 ∷ 5 ∷ 6 ∷ [])
    ≡ Some NoInstance ∷ Some (BadShape 1) ∷ Some (BadShape 1) ∷ Some (Truncated 2) ∷ Some (Truncated 2)
    ∷ Some (BadRow 2) ∷ Some (BadRow 2) ∷ []
cut_0_to_6 = refl

cut_7_to_13 : map answer_at (7 ∷ 8 ∷ 9 ∷ 10 ∷ 11 ∷ 12 ∷ 13 ∷ [])
    ≡ Some (BadRow 2) ∷ Some (BadRow 2) ∷ Some (BadRow 2) ∷ Some (BadRow 2) ∷ Some (Truncated 3) ∷ Some (Truncated 3)
    ∷ Some (BadRow 3) ∷ []
cut_7_to_13 = refl

cut_14_to_20 : map answer_at (14 ∷ 15 ∷ 16 ∷ 17 ∷ 18 ∷ 19 ∷ 20 ∷ [])
    ≡ Some (BadRow 3) ∷ Some (BadRow 3) ∷ Some (BadRow 3) ∷ Some (BadRow 3) ∷ Some (BadRow 3) ∷ None ∷ None ∷ []
cut_14_to_20 = refl

empty_text : IsTextFault orlib [] NoInstance
empty_text = has_fault Orlib [] NoInstance refl refl

one_number : IsTextFault orlib (codes "2") (BadShape 1)
one_number = has_fault Orlib (codes "2") (BadShape 1) refl refl

a_row_for_each_of_201_jobs : IsTextFault orlib (codes "201 2") (Truncated 2)
a_row_for_each_of_201_jobs = has_fault Orlib (codes "201 2") (Truncated 2) refl refl

too_many_jobs : IsTextFault orlib (codes "1001 2") (BadSize 1)
too_many_jobs = has_fault Orlib (codes "1001 2") (BadSize 1) refl refl

-- the faults of texts whose lines end in LF
abbrev fault_of_lines : List (List ℕ) → Option ReadFault
fault_of_lines lines = fault_in orlib (joined lines)

a_row_is_missing : fault_of_lines (codes "2 2" ∷ codes "0 3 1 2" ∷ []) ≡ Some (Truncated 3)
a_row_is_missing = refl

three_numbers : fault_of_lines (codes "2 2" ∷ codes "0 3 9" ∷ codes "1 2 0 4" ∷ []) ≡ Some (BadRow 2)
three_numbers = refl

minus_two_is_a_word : fault_of_lines (codes "2 2" ∷ codes "0 3 1 -2" ∷ codes "1 2 0 4" ∷ []) ≡ Some (BadRow 2)
minus_two_is_a_word = refl

no_such_machine : fault_of_lines (codes "2 2" ∷ codes "0 3 2 2" ∷ codes "1 2 0 4" ∷ []) ≡ Some (BadMachine 2)
no_such_machine = refl

too_long_a_time : fault_of_lines (codes "2 2" ∷ codes "0 3 1 1000000001" ∷ codes "1 2 0 4" ∷ []) ≡ Some (BadTime 2)
too_long_a_time = refl

the_time_comes_first :
    fault_of_lines (codes "2 2" ∷ codes "0 1000000001 5 1" ∷ codes "1 2 0 4" ∷ []) ≡ Some (BadTime 2)
the_time_comes_first = refl

then_the_machine : fault_of_lines (codes "2 2" ∷ codes "0 1000001 5 1" ∷ codes "1 2 0 4" ∷ []) ≡ Some (BadMachine 2)
then_the_machine = refl

a_time_of_a_million_and_one : fault_of_lines (codes "2 2" ∷ codes "0 3 1 1000001" ∷ codes "1 2 0 4" ∷ []) ≡ None
a_time_of_a_million_and_one = refl

-- numbers don't wrap
two_to_the_64 : fault_of_lines (codes "1 1" ∷ codes "0 18446744073709551616" ∷ []) ≡ Some (BadTime 2)
two_to_the_64 = refl

-- blank lines count, and so does a last line of one space
blank_lines_count : fault_of_lines (codes "2 2" ∷ [] ∷ codes " " ∷ codes "0 3 9" ∷ []) ≡ Some (BadRow 4)
blank_lines_count = refl

a_last_line_of_one_space : fault_in orlib (codes "2 2" ++ 10 ∷ codes "0 3 1 2" ++ 10 ∷ codes " ") ≡ Some (Truncated 4)
a_last_line_of_one_space = refl

-- a vertical tab and a form feed are bytes of a token
a_vertical_tab : fault_of_lines (codes "1 1" ∷ (48 ∷ 11 ∷ 55 ∷ []) ∷ []) ≡ Some (BadRow 2)
a_vertical_tab = refl

a_form_feed : fault_of_lines (codes "1 1" ∷ (48 ∷ 12 ∷ 55 ∷ []) ∷ []) ≡ Some (BadRow 2)
a_form_feed = refl

-- a header among the rows, behind a first one
a_header_among_rows :
    fault_of_lines (codes "instance a" ∷ codes "2 1" ∷ codes "0 3" ∷ codes "instance b" ∷ codes "0 4" ∷ [])
    ≡ Some (BadRow 4)
a_header_among_rows = refl

-- the first header strikes what stands before it, the last of two names the instance, and the next one has its number
abbrev text_of_names : List ℕ
text_of_names = joined (codes "82" ∷ codes " instance alpha" ∷ codes "instance a b" ∷ codes "instance beta" ∷ []
    ++ codes "1 1" ∷ codes "0 7" ∷ [] ++ codes "1 1" ∷ codes "0 8" ∷ codes "the end" ∷ [])

abbrev shop_of : ℕ → Shop
shop_of time = record { machines = 1; jobs = job 0 (op 0 time ∷ []) ∷ [] }

names_of_instances : IsText orlib text_of_names (named (codes "beta") (shop_of 7) ∷ named (decimal 2) (shop_of 8) ∷ [])
names_of_instances =
    is_read_as Orlib text_of_names (named (codes "beta") (shop_of 7) ∷ named (decimal 2) (shop_of 8) ∷ [])
    refl refl refl

-- ---- taillard

abbrev taillard_fault : List (List ℕ) → Option ReadFault
taillard_fault lines = fault_in taillard (joined lines)

seven_numbers : taillard_fault (codes "2 2 1 2 3 4 5" ∷ []) ≡ Some (BadShape 1)
seven_numbers = refl

words_inside_a_matrix :
    taillard_fault (codes "2 2" ∷ codes "Times" ∷ codes "3 2" ∷ codes "words" ∷ codes "2 4" ∷ []) ≡ Some (BadRow 4)
words_inside_a_matrix = refl

machine_zero :
    taillard_fault (codes "1 2" ∷ codes "Times" ∷ codes "3 2" ∷ codes "Machines" ∷ codes "0 1" ∷ [])
    ≡ Some (BadMachine 5)
machine_zero = refl

machine_three :
    taillard_fault
    (codes "2 2 11 22 6 6" ∷ codes "Times" ∷ codes "3 2" ∷ codes "2 4" ∷ codes "Machines" ∷ codes "1 3" ∷ [])
    ≡ Some (BadMachine 6)
machine_three = refl

no_machines : taillard_fault (codes "1 1" ∷ codes "4" ∷ []) ≡ Some (Truncated 3)
no_machines = refl

abbrev long_bound : List ℕ
long_bound = joined (codes "1 1 99999999999999999999999" ∷ codes "7" ∷ codes "1" ∷ [])

bounds_are_read_past : IsText taillard long_bound (named (decimal 1) (shop_of 7) ∷ [])
bounds_are_read_past = is_read_as Taillard long_bound (named (decimal 1) (shop_of 7) ∷ []) refl refl refl

abbrev matrices_a : List ℕ
matrices_a = joined (codes "a heading in words" ∷ codes "2 2 11 22 6 6" ∷ codes "Times" ∷ codes "3 2" ∷ codes "2 4" ∷ []
    ++ codes "Machines" ∷ codes "1 2" ∷ codes "2 1" ∷ [])

accepted_matrices : IsText taillard matrices_a (named (decimal 1) shop_a ∷ [])
accepted_matrices = is_read_as Taillard matrices_a (named (decimal 1) shop_a ∷ []) refl refl refl

-- ---- routes

abbrev routes_fault_of : List (List ℕ) → Option ReadFault
routes_fault_of lines = fault_in routes (joined lines)

an_even_count : routes_fault_of (codes "1 1" ∷ codes "0 0" ∷ []) ≡ Some (BadRow 2)
an_even_count = refl

too_late_a_release : routes_fault_of (codes "1 1" ∷ codes "1000000001" ∷ []) ≡ Some (BadTime 2)
too_late_a_release = refl

the_release_comes_first : routes_fault_of (codes "1 1" ∷ codes "1000000001 1 0" ∷ []) ≡ Some (BadTime 2)
the_release_comes_first = refl

a_release_of_a_million_and_one : routes_fault_of (codes "1 1" ∷ codes "1000001" ∷ []) ≡ None
a_release_of_a_million_and_one = refl

machine_one_of_one : routes_fault_of (codes "1 1" ∷ codes "0 1 5" ∷ []) ≡ Some (BadMachine 2)
machine_one_of_one = refl

abbrev text_r : List ℕ
text_r = joined (codes "3 2" ∷ codes "0 0 3 1 2" ∷ codes "4 1 2 0 4" ∷ codes "7" ∷ [])

abbrev shop_r : Shop
shop_r = record {
  machines = 2;
  jobs = job 0 (op 0 3 ∷ op 1 2 ∷ []) ∷ job 4 (op 1 2 ∷ op 0 4 ∷ []) ∷ job 7 [] ∷ [];
}

accepted_r : IsText routes text_r (named (decimal 1) shop_r ∷ [])
accepted_r = is_read_as Routes text_r (named (decimal 1) shop_r ∷ []) refl refl refl
