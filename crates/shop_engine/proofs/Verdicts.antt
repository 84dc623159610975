-- What the steps of `check_text` and `check_bytes` say of their answers.
use Rattle.std.proofs.Common.{arith, ◌≡◌, ℕ, ◌≤◌, length, inl, inr, List, Option, Some, None, Err, Bool}
use Rattle.std.proofs.lemmas.Grind.{common_steps}
use Rattle.shop_text.specs.{Schedules.IsTableFault, Texts.{NamedShop, OrNoMemory}, declared.faults.ReadFault.ReadFault}
use Rattle.shop_text.specs.declared.formats.Format.{Format}
use Rattle.shop_model.specs.Shop.{Shop}
use Rattle.shop_engine.specs.{declared.{args.CheckArgs.CheckArgs, faults.Fault.Fault}, Faults.fault_of, Devices.Device}
use Rattle.shop_engine.specs.{Devices.IsReadToEnd, Asking.{name_in, IsAsked}, Checking.{Second, IsScheduleRead}}
use Rattle.shop_engine.specs.Checking.{IsSecondUnread, IsScheduleRefused, IsVerdictOn, Checks, IsChecking, schedule_in}
use Rattle.shop_engine.{specs.Checking.{IsCheckOf, IsCheckFault}, proofs.Sources.{unread, bad_text}}

-- ---- the schedule is refused

unread_schedule : (text : List ℕ) (shop : Shop) (t t' : Second) (e : Fault) → IsSecondUnread t t' e
    → IsScheduleRefused t t' e text shop
unread_schedule text shop None t' e h = absurd h
unread_schedule text shop (Some old) None e h = absurd h
unread_schedule text shop (Some old) (Some new) e h = unread (IsTableFault shop) h

bad_schedule : (text schedule : List ℕ) (shop : Shop) (t t' : Second) → IsScheduleRead text t t' schedule
    → length schedule ≤ 16777216 → (found : ReadFault) → OrNoMemory (IsTableFault shop) schedule found
    → IsScheduleRefused t t' (fault_of found) text shop
bad_schedule text schedule shop None None read short found (inl none) = grind (arith, common_steps, none.0)
bad_schedule text schedule shop None None read short found (inr bad) = grind (arith, common_steps)
bad_schedule text schedule shop None (Some new) read short found h = absurd read
bad_schedule text schedule shop (Some old) None read short found h = absurd read
bad_schedule text schedule shop (Some old) (Some new) read short found h = grind (arith, common_steps, bad_text)

pub refused_after : (args : CheckArgs) {s s' : Device} {text : List ℕ} {asked : NamedShop} (t t' : Second) (k : Device)
    → IsReadToEnd s s' text → IsAsked args.format (name_in args.name) text asked → (e : Fault)
    → IsScheduleRefused t t' e text asked.shop → IsChecking args s s' t t' k k (Err e)
refused_after args {text = text} {asked = asked} t t' k read is_asked e h = grind (arith, common_steps)

pub unread_after : (args : CheckArgs) {s s' : Device} {text : List ℕ} {asked : NamedShop} (t t' : Second) (k : Device)
    → IsReadToEnd s s' text → IsAsked args.format (name_in args.name) text asked → (e : Fault) → IsSecondUnread t t' e
    → IsChecking args s s' t t' k k (Err e)
unread_after args {text =
    text} {asked = asked} t t' k read is_asked e h = grind (
      arith,
      common_steps,
      refused_after,
      unread_schedule,
      asked.shop,
    )

pub faulty_after : (args : CheckArgs) {s s' : Device} {text schedule judged : List ℕ} {asked : NamedShop}
    (t t' : Second) (k : Device)
    → IsReadToEnd s s' text → IsAsked args.format (name_in args.name) text asked → IsScheduleRead text t t' schedule
    → length schedule ≤ 16777216 → judged ≡ schedule → (e : ReadFault) → OrNoMemory (IsTableFault asked.shop) judged e
    → IsChecking args s s' t t' k k (Err (fault_of e))
faulty_after args {text =
    text} {schedule = schedule} {asked = asked} t t' k read is_asked had short same e h = grind (
      arith,
      common_steps,
      refused_after,
      bad_schedule,
      asked.shop,
    )

-- ---- the schedule is judged

-- the line goes out, or a beginning of it
pub judged : {args : CheckArgs} {s s' : Device} {text schedule seen line written : List ℕ} {asked : NamedShop}
    {feasible : Bool} (t t' : Second) (Goes : List ℕ → Type 0)
    → IsReadToEnd s s' text → IsAsked args.format (name_in args.name) text asked → IsScheduleRead text t t' schedule
    → seen ≡ schedule → IsVerdictOn asked.shop seen feasible line → written ≡ line → Goes written
    → Checks args s s' t t' feasible Goes
judged {text = text} {schedule = schedule} {line = line} {asked = asked} {feasible = feasible} t t' Goes read is_asked
    had same judges is goes = grind (arith, common_steps, asked.shop)

-- ---- over bytes

-- the schedule text of a check is refused
pub check_refused : (format : Format) (name : Option (List ℕ)) (given : Option (List ℕ)) (text schedule : List ℕ)
    (asked : NamedShop) (e : ReadFault) → IsAsked format name text asked → schedule ≡ schedule_in text given
    → OrNoMemory (IsTableFault asked.shop) schedule e
    → OrNoMemory (λ bytes. IsCheckFault format name bytes (schedule_in bytes given)) text e
check_refused format name given text schedule asked e is_asked same (inl none) =
    grind (arith, common_steps, none.0, is_asked.is_text.short)
check_refused format name given text schedule asked e is_asked same (inr bad) = grind (arith, common_steps, asked.shop)

pub checked : (format : Format) (name : Option (List ℕ)) (given : Option (List ℕ)) (text schedule : List ℕ)
    (asked : NamedShop) (feasible : Bool) (line : List ℕ)
    → IsAsked format name text asked → schedule ≡ schedule_in text given → IsVerdictOn asked.shop schedule feasible line
    → IsCheckOf format name text (schedule_in text given) feasible line
checked format name given text schedule asked feasible line is_asked same h = grind (arith, common_steps, asked.shop)
