use Rattle.std.proofs.{Common.{◌≡◌, ◌∙◌, ap, ◌++◌, ◌∷◌, [], List, length, ℕ, string_bytes}, lemmas.List.append_assoc}
use Rattle.std.specs.{Prelude.codes, Fmt.decimal}
use Rattle.shop_text.specs.Writing.{Reported, printed_line, number_line, text_of, answer_lines, status_word}
use Rattle.shop_text.{specs.Reports.reported, proofs.TextLemmas.{written, eight_lines}}
use Rattle.shop_text.proofs.printing.write_answer.Goals as goal

size_is : (old new : List ℕ) (jobs machines shop_jobs shop_machines : ℕ) → jobs ≡ shop_jobs → machines ≡ shop_machines
    → new ≡ old ++ (codes "size " ++ (decimal jobs ++ (codes " " ++ (decimal machines ++ codes "\n"))))
    → new ≡ old ++ printed_line (codes "size" ∷ decimal shop_jobs ∷ decimal shop_machines ∷ [])
size_is old new jobs machines shop_jobs shop_machines e f is = is ∙ rw (e, f) (simp append_assoc)

status_is : (old new word status : List ℕ) → word ≡ status → new ≡ old ++ (codes "status " ++ (word ++ codes "\n"))
    → new ≡ old ++ printed_line (codes "status" ∷ status ∷ [])
status_is old new word status e is = is ∙ ap (λ (w : List ℕ). old ++ printed_line (codes "status" ∷ w ∷ [])) e

-- the eight lines, one behind the other
lines_are : (r : Reported) (jobs machines : ℕ) (word s s1 s2 s3 s4 s5 s6 s7 s8 : List ℕ) → jobs ≡ length r.shop.jobs
    → machines ≡ r.shop.machines → word ≡ status_word r.open_nodes
    → s1 ≡ s ++ printed_line (codes "instance" ∷ r.name ∷ [])
    → s2 ≡ s1 ++ (codes "size " ++ (decimal jobs ++ (codes " " ++ (decimal machines ++ codes "\n"))))
    → s3 ≡ s2 ++ printed_line (number_line (codes "makespan") r.makespan)
    → s4 ≡ s3 ++ printed_line (number_line (codes "bound") r.bound)
    → s5 ≡ s4 ++ (codes "status " ++ (word ++ codes "\n"))
    → s6 ≡ s5 ++ printed_line (number_line (codes "open") r.open_nodes)
    → s7 ≡ s6 ++ printed_line (number_line (codes "rounds") r.rounds)
    → s8 ≡ s7 ++ printed_line (number_line (codes "nodes") r.nodes) → s8 ≡ s ++ text_of (answer_lines r)
lines_are r jobs machines word s s1 s2 s3 s4 s5 s6 s7 s8 e f w i1 i2 i3 i4 i5 i6 i7 i8 =
    eight_lines s s1 s2 s3 s4 s5 s6 s7 s8 _ _ _ _ _ _ _ _ i1 (size_is s1 s2 jobs machines _ _ e f i2) i3 i4
    (status_is s4 s5 word _ w i5) i6 i7 i8

pub returns : goal.returns
returns c =
    written c.writeln-8.result (string_bytes c.writeln-8.new.self
    ≡ string_bytes c.writeln-7.new.self ++ printed_line (number_line (codes "nodes") c.args.report.now.nodes))
    (string_bytes c.writeln-8.new.self ≡ string_bytes c.args.out.now ++ text_of (answer_lines
    (reported c.args.report.now))) c.writeln-8.ensures.bytes
    (lines_are (reported c.args.report.now) c.jobs-jobs.result c.machines-machines.result c.status.result.now
    (string_bytes c.args.out.now) (string_bytes c.writeln.new.self) (string_bytes c.writeln-2.new.self)
    (string_bytes c.writeln-3.new.self) (string_bytes c.writeln-4.new.self) (string_bytes c.writeln-5.new.self)
    (string_bytes c.writeln-6.new.self) (string_bytes c.writeln-7.new.self) (string_bytes c.writeln-8.new.self)
    c.jobs-jobs.ensures c.machines-machines.ensures c.status.ensures c.in_ok-writeln.ensures.bytes
    c.in_ok-writeln-2.ensures.bytes c.in_ok-writeln-3.ensures.bytes c.in_ok-writeln-4.ensures.bytes
    c.in_ok-writeln-5.ensures.bytes c.in_ok-writeln-6.ensures.bytes c.in_ok-writeln-7.ensures.bytes)
