-- What the events before one say of it: each is found by going back from it, by their places in the list.
use Rattle.std.specs.Prelude.{ℕ, zero, suc, ◌==◌, ◌&&◌, nat_lt, Bool, true, false, if◌then◌else◌, List, slice_get, Option, None, Some}
use Rattle.itm_types.specs.declared.step.Step.{Step}
use Rattle.itm_types.specs.declared.step.Step.TheVariants.{Load, Store, Cas}
use Rattle.step_picture.specs.declared.mark.Came.{Came}
use Rattle.step_picture.specs.declared.mark.Came.TheVariants.{GoesOn, Begun, NotBegun, Replied, Restarted, Ended}
use Rattle.step_picture.specs.declared.mark.Mark.{Mark}

-- ## One event

unfoldable pub begins : Came → Bool
begins GoesOn = false
begins Begun = true
begins NotBegun = false
begins Replied = false
begins (Restarted kept) = false
begins (Ended outcome at) = false

-- the thread's begin that opened an attempt
abbrev pub opens : ℕ → Option Mark → Bool
opens thread None = false
opens thread (Some m) = m.event.thread == thread && begins m.came

-- it told its thread the clock
unfoldable pub is_look : Step → Bool
is_look (Load cell) = cell == 0
is_look (Store cell value) = cell == 0
is_look (Cas cell from to) = true

-- the clock that the thread knew after it, where it is one that told it
abbrev pub look_of : ℕ → Option Mark → Option ℕ
look_of thread None = None
look_of thread (Some m) = if m.event.thread == thread && is_look m.event.operation.step then Some m.event.clock else None

-- how many calls have a reply after it, where it is the thread's
abbrev pub calls_of : ℕ → Option Mark → Option ℕ
calls_of thread None = None
calls_of thread (Some m) = if m.event.thread == thread then Some m.calls else None

-- ## Those before a place

-- the place of the last begin of the thread that opened an attempt; the first place, where there is none
abbrev pub begun_in : List Mark → ℕ → ℕ → ℕ
begun_in marks thread zero = 0
begun_in marks thread (suc n) = if opens thread (slice_get marks n) then n else begun_in marks thread n

abbrev pub or_else : Option ℕ → Option ℕ → Option ℕ
or_else None y = y
or_else (Some x) y = Some x

-- the clock as the thread saw it last
abbrev pub known_in : List Mark → ℕ → ℕ → Option ℕ
known_in marks thread zero = None
known_in marks thread (suc n) = or_else (look_of thread (slice_get marks n)) (known_in marks thread n)

abbrev pub back_by : Option ℕ → ℕ → ℕ → ℕ → (ℕ → ℕ) → ℕ
back_by None calls n best on = on best
back_by (Some c) calls n best on = if nat_lt c calls then best else on n

-- the place of the event after which so many calls of the thread's attempt had a reply, as they have had since; this one, where there is none
abbrev pub back_in : List Mark → ℕ → ℕ → ℕ → ℕ → ℕ
back_in marks thread calls zero best = best
back_in marks thread calls (suc n) best = back_by (calls_of thread (slice_get marks n)) calls n best (back_in marks thread calls n)
