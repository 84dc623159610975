-- The next operations of a placing, where they stand in lanes.
use Rattle.std.proofs.Common.{rules, ◌≡◌, ℕ, ◌+◌, ◌<◌, List, length, get_or, sym, ◌∙◌, ap, arith}
use Rattle.std.proofs.lemmas.Bool.{cases_lt}
use Rattle.shop_lanes.specs.Rows.{Rows}
use Rattle.shop_model.{specs.{Shop.{Shop, IsOperation, time_of}, Word.Placing}, proofs.Ends.IsOperation-job}
use Rattle.shop_bound.specs.{Conflicts.{next_end, next_head}, Heads.head_of}
use Rattle.shop_layout.{specs.Positions.{LayoutState, first_position, position_of}, proofs.LaidPositions.is_position_of}
use Rattle.shop_states.{specs.inner.LaneChoices.{AreNextsOfJobs, AreNextsAt}, proofs.Followed.position_or-there}

-- the head of a next operation
pub head_first : (shop : Shop) (p : Placing) (j : ℕ) → head_of shop p j (p.steps j) ≡ next_head shop p j
head_first shop p j = grind arith

module _ {shop : Shop} {p : Placing} {l : LayoutState} {nexts : List ℕ} {rows : Rows}
    (can : AreNextsAt shop p l nexts rows) where
  -- the next operation of a job, or none
  pub next_there : (j : ℕ) → IsOperation shop j (p.steps j) → get_or nexts j 0 ≡ position_of l j (p.steps j)
  next_there j op =
      let route = can.laid.routes j
      in can.are.are j (IsOperation-job shop j (p.steps j) op)
      ∙ position_or-there l (first_position l shop.machines) j (p.steps j) (omega arith)

  pub next_within : (j : ℕ) → IsOperation shop j (p.steps j) → get_or nexts j 0 < length rows.heads
  next_within j op = search (rules, next_there, is_position_of)

  pub next_is : (j : ℕ) → j < length shop.jobs → get_or nexts j 0 < length rows.heads → IsOperation shop j (p.steps j)
  next_is j known below = grind (arith, cases_lt)

  pub nexts_of_jobs : AreNextsOfJobs l rows.heads nexts
  nexts_of_jobs = record {
    positions = can.laid.positions.jobs ∙ sym can.heads.positions;
    jobs = λ q here. grind arith;
    own = λ j known here. (let many = can.are.jobs in let op = next_is j (omega arith) here
        in ap (λ (x : ℕ). get_or l.jobs x 0) (next_there j op)
        ∙ (is_position_of shop can.limits l can.laid j (p.steps j) op).job);
  }

  -- its head, its time and its end
  pub stored_head : (j : ℕ) → IsOperation shop j (p.steps j)
      → get_or rows.heads (get_or nexts j 0) 0 ≡ next_head shop p j + 1
  stored_head j op = grind (arith, next_there, head_first)

  pub stored_time : (j : ℕ) → IsOperation shop j (p.steps j)
      → get_or rows.times (get_or nexts j 0) 0 ≡ time_of shop j (p.steps j)
  stored_time j op = ap (λ (ts : List ℕ). get_or ts (get_or nexts j 0) 0) can.times
      ∙ (ap (λ (x : ℕ). get_or l.times x 0) (next_there j op)
      ∙ (is_position_of shop can.limits l can.laid j (p.steps j) op).time)

  pub stored_end : (j : ℕ) → IsOperation shop j (p.steps j)
      → get_or rows.heads (get_or nexts j 0) 0 + get_or rows.times (get_or nexts j 0) 0 ≡ next_end shop p j + 1
  stored_end j op = let a = stored_head j op in let b = stored_time j op in omega arith
