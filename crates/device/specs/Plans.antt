-- Which calls of a device in memory are made to fail.
use Rattle.std.specs.Prelude.{ℕ, ◌+◌, ◌-◌, ◌^◌, min, false, ◌==◌, ◌||◌, if◌then◌else◌}
use Rattle.device.specs.declared.plan.Plan.{Plan}
use Rattle.device.specs.declared.plan.Fate.{Fate}
use Rattle.device.specs.declared.plan.Fate.TheVariants.{Runs, Fails, Dead}

-- no call fails
abbrev pub no_plan : Plan
no_plan = record { fail_in = 0; stop_in = 0; stopped = false }

-- what becomes of the next call
abbrev pub fate_of : Plan → Fate
fate_of plan = if plan.stopped then Dead
    else if (plan.fail_in == 1) || (plan.stop_in == 1) then Fails else Runs

-- the plan for the calls after the next one
abbrev pub after_call : Plan → Plan
after_call plan = record {
  fail_in = plan.fail_in - 1;
  stop_in = plan.stop_in - 1;
  stopped = plan.stopped || (plan.stop_in == 1);
}

-- the nth call from now fails, once
abbrev pub failing_at : ℕ → Plan → Plan
failing_at n plan = record plan { fail_in = n }

-- the nth call from now fails, and each later one
abbrev pub stopping_at : ℕ → Plan → Plan
stopping_at n plan = record plan { stop_in = n; stopped = false }

-- so many calls, and the next one: none is counted after a stop, and none above 2^64 - 1
abbrev pub counted_with : Plan → ℕ → ℕ
counted_with plan count = if plan.stopped then count else min (count + 1) (2 ^ 64 - 1)
