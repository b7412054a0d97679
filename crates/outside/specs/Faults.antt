-- The count of an object's faults, before a call and after it.
use Rattle.std.specs.Prelude.{◌≡◌, ℕ, ◌+◌, ◌-◌, ◌^◌, ◌≤◌, min, max, Result, MatchResult}
use Rattle.outside.specs.declared.fault.OutFail.{OutFail}
use Rattle.outside.specs.declared.fault.OutFail.TheVariants.{Failed, NoMemory}

-- the last value of a count, which is kept in 64 bits
abbrev pub last_count : ℕ
last_count = 2 ^ 64 - 1

-- the count after one more, which stays where it is from the last value on
abbrev pub one_more : ℕ → ℕ
one_more n = max n (min (n + 1) last_count)

-- the count rose, or it stood at its last value
abbrev pub Rose : ℕ → ℕ → Type 0
Rose before now = one_more before ≤ now

-- a call that can only fail by the outside: it fails only where the count rose, and else leaves it
abbrev pub HasCause : {T E : Type 0} → ℕ → ℕ → Result T E → Type 0
HasCause before now result = MatchResult result (λ _. now ≡ before) (λ _. Rose before now)

-- the count after such a failure: one more, but for want of memory
abbrev pub count_after : OutFail → ℕ → ℕ
count_after Failed before = one_more before
count_after NoMemory before = before

-- what is told of the count after a failed call that takes memory too
abbrev pub FailCounts : ℕ → ℕ → OutFail → Type 0
FailCounts before now Failed = Rose before now
FailCounts before now NoMemory = now ≡ before

-- a call that takes memory: the outside is blamed only where the count rose, and else the call leaves it
abbrev pub HasCauseOrNoMemory : {T : Type 0} → ℕ → ℕ → Result T OutFail → Type 0
HasCauseOrNoMemory before now result = MatchResult result (λ _. now ≡ before) (FailCounts before now)
