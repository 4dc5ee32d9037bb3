-- A thread of nested code tells its room truly; and so its irrevocable attempt never wants memory.
use Rattle.std.proofs.Common.{◌≡◌, ℕ, zero, suc, ◌≤◌, List, [], ◌∷◌, map, Bool, true, false, None, Some, refl, sym, ap, subst, ◌∙◌, inl, inr, arith, slice_get, if◌then◌else◌}
use Rattle.script_laws.proofs.Common.{Begin, Call, Instruction, IsNested, Mode, Nests, Thread, answered, back_nested, carried_room, depth_of, left, next_call, opening, opening_nested, plays, slice_get_within, some_left, there_is, thread_rules, threads_of}
use Rattle.world_rules.specs.PlayerRooms.{ComesTo, EndsWithin, GoesTo, TellsRoom, going_room}
use Rattle.script_laws.specs.Fed.{AreFed, TellRoom}

-- one that makes its transaction irrevocable is one of these
only_told : (going : Bool) (room n : ℕ) → (if going then Some room else None) ≡ Some n → Some room ≡ Some n
only_told true room n e = e
only_told false room n e = absurd (cc)

going_told : (call : Call) (n : ℕ) → going_room call ≡ Some n → carried_room call ≡ Some n
going_told (Begin props room) n e = only_told props.goes_irrevocable room n e
going_told (Mode room) n e = e
going_told call n e = absurd (cc)

goes_nested : (p q : Thread) → IsNested p → GoesTo thread_rules p q → IsNested q
goes_nested p q nested (inl g) = subst IsNested (sym g.4) (plays p g.0 g.1 nested g.2 g.3).nested
goes_nested p q nested (inr g) = subst IsNested (sym g.1) (back_nested p nested)

comes_nested : (deepest n : ℕ) (code : List Instruction) (q : Thread) → Nests code [] → ComesTo thread_rules n (opening deepest code) q → IsNested q
comes_nested deepest zero code q x comes = subst IsNested (sym comes) (opening_nested deepest code x)
comes_nested deepest (suc n) code q x comes = goes_nested comes.0 q (comes_nested deepest n code comes.0 x comes.1) comes.2

ends_within : (n : ℕ) (t : Thread) → IsNested t → left t ≤ n → EndsWithin thread_rules n t
ends_within zero t nested few = λ call next. by_depth call next (depth_of t) refl
  where
    by_depth : (call : Call) → next_call t ≡ Some call → (d : ℕ) → depth_of t ≡ d → depth_of t ≡ 0
    by_depth call next zero e = e
    by_depth call next (suc d) e = absurd (let some = some_left t call next (omega arith) in omega arith)
ends_within (suc n) t nested few = λ some call reply next may.
    (let x = plays t call reply nested next may in
    let falls = x.falls some in
    ends_within n (answered t reply) x.nested (omega arith))

pub tell_room : TellRoom
tell_room deepest code x n u call reply room comes next may told =
    let p = plays u call reply (comes_nested deepest n code u x comes) next may in
    ends_within room (answered u reply) p.nested (p.told room told)

-- a player of each place is that of the thread
opened_at : (deepest : ℕ) (codes : List (List Instruction)) (place : ℕ) (t : Thread) → slice_get (map (opening deepest) codes) place ≡ Some t → (code : List Instruction) × (slice_get codes place ≡ Some code) × (t ≡ opening deepest code)
opened_at deepest [] place t e = absurd (cc)
opened_at deepest (x ∷ codes) zero t e = (x, refl, (let same : opening deepest x ≡ t = cc in sym same))
opened_at deepest (x ∷ codes) (suc n) t e = opened_at deepest codes n t e

pub are_fed : AreFed
are_fed p w nested players tied place a is starved =
    let here = there_is w.opening place (let l = slice_get_within w.actors place a is in let long = tied.each in omega arith) in
    let thread = opened_at p.limits.depth (threads_of p) place here.0 (ap (λ (l : List Thread). slice_get l place) (sym players) ∙ here.1) in
    tied.fed place here.0 a here.1 is (subst (TellsRoom thread_rules) (sym thread.2) (λ n u call reply room comes next may told. tell_room p.limits.depth thread.0 (nested place thread.0 thread.1) n u call reply room comes next may (going_told call room told))) starved
