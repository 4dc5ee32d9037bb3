-- How a read and a write of a number are answered where the transaction goes on.
use Rattle.std.proofs.Common.{◌≡◌, ℕ, ◌+◌, ◌≤◌, Bool, true, false, length, drop, List, Option, None, Some, refl, sym, ap, subst, arith, length-drop}
use Rattle.itm_runtime.proofs.Common.{Answer, Call, Core, Datum, Done, GoesOn, HasNumber, IsAnswered, OutOfRange, Read, Refusal, Replied, Reply, Served, Standing, Tells, U8, View, Write, bytes_reply, came_over, or_else, ranges, refusal, reply_unless, standing, start_of, unless}
use Rattle.std.{proofs.lemmas.Bool.leb-true, proofs.lemmas.List.length-take-le}
use Rattle.itm_types.specs.Access.{size_of}
use Rattle.itm_types.specs.declared.access.ReadHint.{ReadHint}
use Rattle.itm_types.specs.declared.access.WriteHint.{WriteHint}
use Rattle.itm_types.specs.Slices.{slice}
use Rattle.itm_model.{specs.Places.in_range, specs.State.State}
use Rattle.norec_core.specs.Stands.{stands_for}
use Rattle.shared_words.specs.declared.words.Words.{Words}
use Rattle.itm_runtime.specs.declared.stop.Stop.TheVariants as stops
use Rattle.itm_types.specs.declared.access.Width.{Width}
use Rattle.itm_runtime.proofs.GoingOn.{on_reply, unrefused}

-- a refusal that is none leaves no refusal of the bytes
later_none : (first later : Option Refusal) → or_else first later ≡ None → later ≡ None
later_none None later e = e
later_none (Some why) later e = absurd (cc)

within_range : (b : Bool) → unless b OutOfRange ≡ None → b ≡ true
within_range true e = refl
within_range false e = absurd (cc)

slice_within : (bytes : List ℕ) (at size : ℕ) → at + size ≤ length bytes → length (slice bytes at size) ≡ size
slice_within bytes at size h = length-take-le size (drop at bytes) (omega (arith, length-drop at bytes))

-- the bytes of a read that is accepted are as many as it asks for
module _ (hint : ReadHint) (width : Width) (at : ℕ) (F : Answer → Type 0) (sized : (bytes : List ℕ) → length bytes ≡ size_of width → F (Reply (bytes_reply bytes))) where
  read_reply : (depth : ℕ) (s : State) (r : Replied) (why : Option Refusal) → refusal depth s (Read hint width at) ≡ why → r ≡ reply_unless why (bytes_reply (slice s.memory at (size_of width))) → GoesOn (Reply r) → F (Reply r)
  read_reply depth s r (Some why) is e on = absurd (on (stops.Refused why) (ap (λ (x : Replied). Some (Reply x)) (sym e)))
  read_reply depth s r None is e on =
      let none = later_none (standing depth s (Read hint width at)) (ranges s (Read hint width at)) is in
      let within = within_range (in_range s.memory at (size_of width)) none in
      subst (λ (x : Replied). F (Reply x)) (sym e) (sized (slice s.memory at (size_of width)) (slice_within s.memory at (size_of width) (leb-true (at + size_of width) (length s.memory) within)))

  pub read_sized : (t : Standing) (a : Answer) (v : View) (e : Core) → Served (start_of t (Read hint width at) false) a v e → GoesOn a → F a
  read_sized t a v e served on =
      let s : State = stands_for t.engine (came_over (start_of t (Read hint width at) false) v e) in
      on_reply F (start_of t (Read hint width at) false) a v e tt served on (λ r goes now. read_reply t.engine.depth s r (refusal t.engine.depth s (Read hint width at)) refl now.tells.here.reply_is goes)

-- a read that goes on has the bytes of a number
pub read_number : (t : Standing) (hint : ReadHint) (at : ℕ) (a : Answer) (v : View) (e : Core) → Served (start_of t (Read hint U8 at) false) a v e → GoesOn a → HasNumber a
read_number t hint at a v e served on = read_sized hint U8 at HasNumber (λ bytes long. long) t a v e served on

-- a write that goes on is done
pub write_done : (t : Standing) (hint : WriteHint) (at : ℕ) (value : Datum) (a : Answer) (v : View) (e : Core) → Served (start_of t (Write hint at value) false) a v e → GoesOn a → a ≡ Reply Done
write_done t hint at value a v e served on =
    let s = start_of t (Write hint at value) false in
    on_reply (λ (x : Answer). x ≡ Reply Done) s a v e tt served on (λ r goes now. unrefused r Done (refusal t.engine.depth (stands_for t.engine (came_over s v e)) s.call) now.tells.here.reply_is goes)

-- an answer that is told
pub told_of : {A : Type 0} (told : Option Answer) (a : Answer) (words : Words A) (t : Standing) (call : Call) (new : Standing) → told ≡ Some a → IsAnswered words (start_of t call false) a new.pass new.engine → Tells words t call told new
told_of told a words t call new is answered = subst (λ (o : Option Answer). Tells words t call o new) (sym is) answered
