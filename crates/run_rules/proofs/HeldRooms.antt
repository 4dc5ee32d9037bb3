-- What an answer leaves of the room of a transaction that is irrevocable, or becomes so.
use Rattle.std.proofs.Common.{◌≡◌, ℕ, ◌+◌, ◌<◌, ◌≤◌, ◌||◌, Bool, true, false, true≢false, ◌⊎◌, if◌then◌else◌, Option, [], None, Some, is_some, unwrap_or, refl, sym, ap, subst, ◌∙◌, inl, inr, arith}
use Rattle.run_rules.proofs.Common.{Abort, Answer, Call, Core, Ends, Enters, HasRoomIn, IsRestart, IsSettled, LeavesActions, RepliesHeld, Reply as Replied, came, cases_Bool, counted, goes_in, in_transaction, irrevocable_room, is_abort, is_held, reply_cases, rests, room_left, total}
use Rattle.run_rules.proofs.IrrevocableCalls.{abort_runs, answered_idle, goes_no_action, goes_no_cancel, goes_same, left_most, room_by_call}
use Rattle.std.proofs.Math.Bool.{or-false}

-- ## Whether a transaction is held

pub goes_in_same : (c d : Core) (doing : Option Call) → c.depth ≡ d.depth → c.blocks ≡ d.blocks → c.irrevocable ≡ d.irrevocable → goes_in c doing ≡ goes_in d doing
goes_in_same c d None deep b h = refl
goes_in_same c d (Some call) deep b h = goes_same c d call deep b h

pub held_same : (c d : Core) → c.depth ≡ d.depth → c.blocks ≡ d.blocks → c.irrevocable ≡ d.irrevocable → c.doing ≡ d.doing → is_held c ≡ is_held d
held_same c d deep b h doing = λ i. h i || is_some ((goes_in_same c d c.doing deep b h ∙ ap (goes_in d) doing) i)

-- outside a call, one that is irrevocable alone
held_idle : (c : Core) → c.doing ≡ None → is_held c ≡ c.irrevocable
held_idle c none = ap (λ (o : Option Call). c.irrevocable || is_some (goes_in c o)) none ∙ or-false c.irrevocable

pub held_as : (c : Core) → c.irrevocable ≡ true → is_held c ≡ true
held_as c i = ap (λ (b : Bool). b || is_some (goes_in c c.doing)) i

-- one that is given up is neither
pub none_held : (c : Core) → c.irrevocable ≡ false → c.doing ≡ None → is_held c ≡ false
none_held c revocable none = held_idle c none ∙ revocable

-- ## The same room

pub same_room : (c d : Core) (ends cancels : ℕ) → c.depth ≡ d.depth → c.blocks ≡ d.blocks → c.irrevocable ≡ d.irrevocable → c.doing ≡ d.doing → c.room ≡ d.room → c.actions ≡ d.actions → HasRoomIn c ends cancels → HasRoomIn d ends cancels
same_room c d ends cancels deep b h doing room acts has = λ held some.
    (let n : counted c ≡ counted d = (λ i. if in_transaction (record c { blocks = b i }) then total (acts i) else 0) in
    let both = has (held_same c d deep b h doing ∙ held) (omega arith) in
    ((let x = both.0 in omega arith), (let x = both.1 in omega arith)))

-- ## A call comes

-- there is room for the call that came: that which was there, or that which was made for it
pub came_room : (c : Core) (call : Call) (again : Bool) (ends cancels ends' cancels' : ℕ) → (c.irrevocable ≡ true → 0 < c.room → (counted c + c.room ≤ ends) × (counted c + c.room ≤ cancels)) → ends ≤ ends' → cancels ≤ cancels'
    → (0 < unwrap_or (irrevocable_room c call) 0 → (counted c + unwrap_or (irrevocable_room c call) 0 ≤ ends') × (counted c + unwrap_or (irrevocable_room c call) 0 ≤ cancels')) → HasRoomIn (came c call again) ends' cancels'
came_room c call again ends cancels ends' cancels' has more more' made held some = by_room (irrevocable_room c call) refl
  where
    by_room : (o : Option ℕ) → irrevocable_room c call ≡ o → (counted c + unwrap_or (irrevocable_room c call) c.room ≤ ends') × (counted c + unwrap_or (irrevocable_room c call) c.room ≤ cancels')
    by_room (Some room) is =
        (let given : unwrap_or (irrevocable_room c call) c.room ≡ room = ap (λ (o : Option ℕ). unwrap_or o c.room) is in
        let asked : unwrap_or (irrevocable_room c call) 0 ≡ room = ap (λ (o : Option ℕ). unwrap_or o 0) is in
        let both = made (omega arith) in
        ((let x = both.0 in omega arith), (let x = both.1 in omega arith)))
    by_room None is =
        (let given : unwrap_or (irrevocable_room c call) c.room ≡ c.room = ap (λ (o : Option ℕ). unwrap_or o c.room) is in
        let none : is_some (irrevocable_room (came c call again) call) ≡ false = ap (is_some {T = ℕ}) (goes_same (came c call again) c call refl refl refl ∙ is) in
        let was : c.irrevocable ≡ true = sym (or-false c.irrevocable) ∙ (ap (λ (b : Bool). c.irrevocable || b) (sym none) ∙ held) in
        let both = has was (omega arith) in
        ((let x = both.0 in omega arith), (let x = both.1 in omega arith)))

-- ## An answer

-- what is left of it over an answer
pub record LeavesRoom (mid new : Core) : Type 0 where
  pub over : in_transaction new ≡ false → is_held new ≡ false
  pub held : is_held new ≡ true → is_held mid ≡ true
  pub room : is_held new ≡ true → 0 < new.room → (0 < mid.room) × (counted new + new.room ≤ counted mid + mid.room)
  pub ran : is_held new ≡ true → in_transaction mid ≡ true → new.actions.ran ≡ mid.actions.ran

module _ (mid new : Core) (call : Call) (answer : Answer) (doing : mid.doing ≡ Some call) (settled : IsSettled new) (g : Ends mid answer new) (stays : IsRestart answer → ⊥) (shut : in_transaction mid ≡ false → (mid.actions.commits ≡ []) × (mid.actions.undos ≡ [])) where
  acts : LeavesActions mid call new
  acts = (rests mid new answer g).acts call doing stays

  is_irrevocable : is_held new ≡ true → new.irrevocable ≡ true
  is_irrevocable held = sym (held_idle new (answered_idle mid new call answer doing g)) ∙ held

  is_inside : new.irrevocable ≡ true → in_transaction new ≡ true
  is_inside h = (settled.holder (settled.irrevocable h).0).0

  -- it is a reply, of one of two kinds
  abbrev Kinds : Type 0
  Kinds = (r : Replied) × (Enters mid call r new ⊎ RepliesHeld mid call r new)

  kinds_of : new.irrevocable ≡ true → Kinds
  kinds_of h =
      elim ((rests mid new answer g).replies (is_inside h)) [
        | inl reply ↦ elim (reply_cases mid new call reply.0 doing (subst (λ (a : Answer). Ends mid a new) reply.1 g)) [
          | inl w ↦ absurd (true≢false (sym h ∙ (ap (λ (c : Core). c.irrevocable) w.stays ∙ w.revocable)))
          | inr w ↦ (reply.0, w)
        ]
        | inr back ↦ absurd (stays back)
      ]

  was_held : Kinds → is_held mid ≡ true
  was_held (r, inl w) = (λ i. w.revocable i || is_some (goes_in mid (doing i))) ∙ w.goes
  was_held (r, inr w) = held_as mid w.irrevocable

  counts : (o : Bool) (c : Core) → in_transaction c ≡ o → counted c ≡ (if o then total c.actions else 0)
  counts o c is = ap (λ (b : Bool). if b then total c.actions else 0) is

  room_most : Kinds → new.room ≤ mid.room
  room_most (r, inl w) = (let same : new.room ≡ mid.room = ap (λ (c : Core). c.room) w.stays in omega arith)
  room_most (r, inr w) = (let most = left_most mid call r in let same : new.room ≡ room_left mid call r = ap (λ (c : Core). c.room) w.stays in omega arith)

  room_by : (was : Bool) → in_transaction mid ≡ was → in_transaction new ≡ true → Kinds → 0 < new.room → (0 < mid.room) × (counted new + new.room ≤ counted mid + mid.room)
  room_by false o now kinds some = (let most = room_most kinds in let none = acts.begins o (shut o).0 (shut o).1 now in let n = counts true new now in (omega arith, omega arith))
  room_by true o now (r, inl w) some =
      (let same = room_most (r, inl w) in
      let most = (acts.runs o).most in
      let none = goes_no_action mid call w.goes in
      let n = counts true new now in
      let k = counts true mid o in
      (omega arith, omega arith))
  room_by true o now (r, inr w) some =
      (let both = room_by_call mid new call r w.irrevocable (ap (λ (c : Core). c.actions) w.stays) (ap (λ (c : Core). c.room) w.stays) (acts.runs o).most some in
      let most = both.1 in
      let n = counts true new now in
      let k = counts true mid o in
      (both.0, omega arith))

  ran_by : in_transaction mid ≡ true → in_transaction new ≡ true → Kinds → new.actions.ran ≡ mid.actions.ran
  ran_by o now (r, inl w) = acts.same o (goes_no_cancel mid call w.goes) now
  ran_by o now (r, inr w) = by_call call r w (acts.same o)
    where
      by_call : (c : Call) (r : Replied) → RepliesHeld mid c r new → (is_abort c ≡ false → in_transaction new ≡ true → new.actions.ran ≡ mid.actions.ran) → new.actions.ran ≡ mid.actions.ran
      by_call (Abort outer) r w same = abort_runs mid new outer r w
      by_call c r w same = same refl now

  pub leaves_room : LeavesRoom mid new
  leaves_room = record {
    over = λ closed. elim (cases_Bool (is_held new)) [ inl held ↦ absurd (true≢false (sym (is_inside (is_irrevocable held)) ∙ closed)) | inr free ↦ free ];
    held = λ held. was_held (kinds_of (is_irrevocable held));
    room = λ held some. room_by (in_transaction mid) refl (is_inside (is_irrevocable held)) (kinds_of (is_irrevocable held)) some;
    ran = λ held o. ran_by o (is_inside (is_irrevocable held)) (kinds_of (is_irrevocable held));
  }

-- there is room for what comes after it
pub left_in_room : {mid new : Core} (ends cancels : ℕ) → LeavesRoom mid new → HasRoomIn mid ends cancels → HasRoomIn new ends cancels
left_in_room ends cancels left has held some =
    let less = left.room held some in
    let both = has (left.held held) less.0 in
    ((let x = both.0 in let y = less.1 in omega arith), (let x = both.1 in let y = less.1 in omega arith))
