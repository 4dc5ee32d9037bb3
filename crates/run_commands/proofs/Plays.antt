-- What the writer has got of a world's history.
use Rattle.std.proofs.Common.{inl, inr, ◌≡◌, ℕ, List, [], ◌++◌, length, take, drop, flat_map, Option, None, Some, IsSome, Result, Ok, Err, true≢false, refl, sym, ap, subst, ◌∙◌, append-nil, append_assoc, arith, All, IfOk, IsErr, OnErr, OnOk}
use Rattle.run_commands.proofs.Common.{Adds, AddsEnded, All-append, All-nil, Appends, Appends-kept, Appends-nil, Appends-trans, Attempt, AttemptFits, Error, Fails, Front, Goes, Grown, HasWhole, HistoryFits, IsBytes, IsCutOff, IsWord, Item, ItemsBegin, ItemsLead, Page, Performs, Rules, SendsEnded, StreamState, Version, World, adds_as, adds_failed, adds_nothing, adds_then, attempt_lines, common_steps, ending_at, event_grown, event_result, fault_of, flat_map-append, history_text, last_line, lines_so_far, result_err, stream_state, take-append-drop, told_event, told_of, waits_at}
use Rattle.tx_history.specs.Streams.{Leaves}
use Rattle.world_rules.specs.Stages.{opens}
use Rattle.run_commands.proofs.Items.{items_unbegun, items_whole}

-- what is so of a failure
pub on_err : {T E F : Type 0} (r : Result T E) → F → OnErr r F
on_err (Ok x) h = record {}
on_err (Err e) h = h

-- what is so where nothing failed, of a call that leaves this fault
pub on_ok : {T F : Type 0} (r : Result T Error) (g : Option Error) → g ≡ result_err r → OnOk r F → g ≡ None → F
on_ok (Ok x) g told h good = h
on_ok (Err e) g told h good = absurd (some_is_none e (sym told ∙ good))
  where
    some_is_none : (e : Error) → Some e ≡ None → ⊥
    some_is_none e f = cc

-- and the other way round
pub if_ok : {T F : Type 0} (r : Result T Error) (g : Option Error) → g ≡ result_err r → (g ≡ None → F) → OnOk r F
if_ok (Ok x) g told h = h told
if_ok (Err e) g told h = record {}

-- what failed is not so
pub none_ok : {T E : Type 0} (F : Type 0) (r : Result T E) → IsErr r → OnOk r F
none_ok F (Ok x) h = absurd (true≢false (sym h))
none_ok F (Err e) h = record {}

-- what is so in any case
pub on_any : {T E F : Type 0} (r : Result T E) → F → OnOk r F
on_any (Ok x) h = h
on_any (Err e) h = record {}

-- and of what is answered, whatever it is
pub if_any : {T E F : Type 0} (r : Result T E) → F → IfOk r (λ x. F)
if_any (Ok x) h = h
if_any (Err e) h = record {}

-- ## What an event ends

dropped : (old new : List Attempt) (n : ℕ) → n ≡ length old → (g : Grown old new) → drop n new ≡ g.0
dropped old new n long (more, e) = grind (arith, common_steps)

-- behind all of them there is none
pub none_left : (all : List Attempt) (n i : ℕ) → n ≡ length all → n ≡ i → drop i all ≡ []
none_left all n i long same = grind (arith, common_steps)

module _ {P : Type 0} (rules : Rules P) where
  -- an event, and the lines of what it ended
  pub event_adds : (old new : World P) (thread n : ℕ) (s t : StreamState) → IsSome (waits_at old thread) → Goes rules thread old (event_result (ending_at new thread)) new → n ≡ length old.attempts.ended
      → Adds s t (flat_map attempt_lines (drop n new.attempts.ended)) → (t.fault ≡ None → All AttemptFits (drop n new.attempts.ended)) → AddsEnded old new s t
  event_adds old new thread n s t waits g long p fits =
      let grown = event_grown rules old new thread waits g in
      let same = dropped old.attempts.ended new.attempts.ended n long grown in
      record {
        base = g.opening.base;
        more = grown.0;
        ended = grown.1;
        adds = adds_as s t _ _ p (ap (λ (l : List Attempt). flat_map attempt_lines l) same);
        fits = λ good. subst (All AttemptFits) same (fits good);
      }

  -- one that ended none
  pub event_ends_none : (old new : World P) (thread n m : ℕ) (s : StreamState) → IsSome (waits_at old thread) → Goes rules thread old (event_result (ending_at new thread)) new → n ≡ length old.attempts.ended → m ≡ length new.attempts.ended → m ≡ n
      → AddsEnded old new s s
  event_ends_none old new thread n m s waits g before after same =
      let none = none_left new.attempts.ended m n after same in
      event_adds old new thread n s s waits g before (adds_as s s [] _ (adds_nothing s) (sym (ap (λ (l : List Attempt). flat_map attempt_lines l) none))) (λ good. subst (All AttemptFits) (sym none) (All-nil AttemptFits))

-- ## What has not failed

leaves_fresh : (f : Option Error) (u v : Option (List ℕ)) (x : List ℕ) → Leaves f None u v x → f ≡ None
leaves_fresh None u v x p = refl
leaves_fresh (Some e) u v x p = absurd p

-- what has not failed had not failed before
adds_fresh : (s t : StreamState) (x : List ℕ) → t.fault ≡ None → Adds s t x → s.fault ≡ None
unfolding Adds
adds_fresh s t x good p = leaves_fresh s.fault s.written t.written x (subst (λ (g : Option Error). Leaves s.fault g s.written t.written x) good p)

-- ## One world after the other

module _ {P : Type 0} where
  pub adds_same : (w : World P) (s : StreamState) → AddsEnded w w s s
  adds_same w s = record { base = refl; more = []; ended = sym (append-nil w.attempts.ended); adds = adds_nothing s; fits = λ good. All-nil AttemptFits }

  pub adds_both : (a b c : World P) (s t u : StreamState) → AddsEnded a b s t → AddsEnded b c t u → AddsEnded a c s u
  adds_both a b c s t u f g = record {
    base = g.base ∙ f.base;
    more = f.more ++ g.more;
    ended = g.ended ∙ ap (λ (l : List Attempt). l ++ g.more) f.ended ∙ append_assoc a.attempts.ended f.more g.more;
    adds = adds_as s u _ _ (adds_then s t u _ _ f.adds g.adds) (sym (flat_map-append attempt_lines f.more g.more));
    fits = λ good. All-append AttemptFits f.more g.more (f.fits (adds_fresh t u _ good g.adds)) (g.fits good);
  }

-- ## One call after the other

module _ {P W : Type 0} {contents : W → Option (List ℕ)} where
  pub sends_none : (w : World P) (s : Page W) → fault_of s ≡ None → SendsEnded {A = Unit {0}} contents w w s s (Ok tt)
  sends_none w s fresh = record { same = refl; answer = fresh; adds = adds_same w (stream_state contents s) }

  -- nor in the second
  pub sends_on : {a b c : World P} {s t u : Page W} {A B C : Type 0} {q : Result A Error} {x : B} {y : C} → SendsEnded contents a b s t q → SendsEnded {A = B} contents b c t u (Ok x) → SendsEnded {A = C} contents a c s u (Ok y)
  sends_on {a} {b} {c} {s} {t} {u} f g = record { same = g.same ∙ f.same; answer = g.answer; adds = adds_both a b c _ _ _ f.adds g.adds }

  -- one failed in the second
  pub sends_stopped : {a b c : World P} {s t u : Page W} {A B C : Type 0} {q : Result A Error} {e : Error} (r : Result C Error) → SendsEnded contents a b s t q → SendsEnded {A = B} contents b c t u (Err e) → r ≡ Err e → SendsEnded contents a c s u r
  sends_stopped {a} {b} {c} {s} {t} {u} {C = C} r f g failed = record {
    same = g.same ∙ f.same;
    answer = g.answer ∙ sym (ap (result_err {T = C} {E = Error}) failed);
    adds = adds_both a b c _ _ _ f.adds g.adds;
  }

-- ## Where a write failed

leaves_begun : (g : Option Error) (u v : Option (List ℕ)) (x : List ℕ) → Leaves None g u v x → (y : List ℕ) × Appends u v y
leaves_begun None u v x p = (x, p)
leaves_begun (Some e) u v x p = (take p.0 x, p.2)

adds_begun : (s t : StreamState) (x : List ℕ) → s.fault ≡ None → Adds s t x → (y : List ℕ) × Appends s.written t.written y
unfolding Adds
adds_begun s t x fresh p = leaves_begun t.fault s.written t.written x (subst (λ (f : Option Error). Leaves f t.fault s.written t.written x) fresh p)

adds_all : (s t : StreamState) (x : List ℕ) → s.fault ≡ None → t.fault ≡ None → Adds s t x → Appends s.written t.written x
unfolding Adds
adds_all s t x fresh good p = subst (λ (g : Option Error). Leaves None g s.written t.written x) good (subst (λ (f : Option Error). Leaves f t.fault s.written t.written x) fresh p)

-- what came before the failed write is whole
begins_with : (s t u : StreamState) (x y : List ℕ) → s.fault ≡ None → t.fault ≡ None → Adds s t x → Adds t u y → HasWhole s.written u.written x
begins_with s t u x y fresh good p q =
    let more = adds_begun t u y good q in
    (more.0, Appends-trans s.written t.written u.written x more.0 (adds_all s t x fresh good p) more.1)

-- more came before
begins_after : (s t : StreamState) (u : Option (List ℕ)) (x y : List ℕ) → s.fault ≡ None → t.fault ≡ None → Adds s t x → HasWhole t.written u y → HasWhole s.written u (x ++ y)
begins_after s t u x y fresh good p (more, b) =
    (more, subst (Appends s.written u) (sym (append_assoc x y more)) (Appends-trans s.written t.written u x (y ++ more) (adds_all s t x fresh good p) b))

module _ {P : Type 0} (rules : Rules P) where
  -- after an event
  pub fails_here : (leads : World P → World P → Type 0) (a b c : World P) (thread : ℕ) (s t u : StreamState) → s.fault ≡ None → t.fault ≡ None → AddsEnded a b s t → AddsEnded b c t u
      → leads a b → leads a c → Goes rules thread b (event_result (ending_at c thread)) c → Fails rules leads a c s u
  fails_here leads a b c thread s t u fresh good f g first all goes = record {
    before = b;
    first = first;
    last = (thread, event_result (ending_at c thread), told_event (ending_at c thread), goes);
    all = all;
    more = f.more;
    ended = f.ended;
    told = begins_with s t u _ _ fresh good f.adds g.adds;
  }

  -- after others
  pub fails_later : (part leads : World P → World P → Type 0) (a b c : World P) (s t u : StreamState) → s.fault ≡ None → t.fault ≡ None → AddsEnded a b s t
      → ((w : World P) → part b w → leads a w) → Fails rules part b c t u → Fails rules leads a c s u
  fails_later part leads a b c s t u fresh good f lift g = record {
    before = g.before;
    first = lift g.before g.first;
    last = g.last;
    all = lift c g.all;
    more = f.more ++ g.more;
    ended = g.ended ∙ ap (λ (l : List Attempt). l ++ g.more) f.ended ∙ append_assoc a.attempts.ended f.more g.more;
    told = subst (HasWhole s.written u.written) (sym (flat_map-append attempt_lines f.more g.more)) (begins_after s t u.written _ _ fresh good f.adds g.told);
  }

  pub performs_stopped : {W A : Type 0} {contents : W → Option (List ℕ)} {all first : World P → World P → Type 0} {a b : World P} {s t : Page W} {r : Result A Error}
      → SendsEnded contents a b s t r → IsErr r → Fails rules first a b (stream_state contents s) (stream_state contents t) → length b.actors ≡ length a.actors → Performs rules contents all first a b s t r
  performs_stopped {r} p failed f same = record { sends = p; leads = none_ok _ r failed; fails = on_err r f; actors = same }

-- ## A whole history

so_far_more : (version : Version) (memory : List ℕ) (xs ys : List Attempt) → lines_so_far version memory (xs ++ ys) ≡ lines_so_far version memory xs ++ flat_map attempt_lines ys
so_far_more version memory xs ys = grind (arith, common_steps)

module _ {P : Type 0} (version : Version) where
  -- the lines so far, after some events
  pub adds_lines : (a b : World P) (s t u : StreamState) → Adds s t (lines_so_far version a.base a.attempts.ended) → AddsEnded a b t u → Adds s u (lines_so_far version b.base b.attempts.ended)
  adds_lines a b s t u p f =
      adds_as s u _ _ (adds_then s t u _ _ p f.adds)
      (sym (so_far_more version a.base a.attempts.ended f.more) ∙ (λ i. lines_so_far version (sym f.base i) (sym f.ended i)))

  text_of : (w : World P) → history_text (told_of version w) ≡ lines_so_far version w.base w.attempts.ended ++ (flat_map attempt_lines (opens w.actors) ++ last_line w.cells.clock (told_of version w).bytes)
  unfolding history_text
  text_of w =
      ap (λ (l : List ℕ). l ++ last_line w.cells.clock (told_of version w).bytes) (so_far_more version w.base w.attempts.ended (opens w.actors))
      ∙ append_assoc (lines_so_far version w.base w.attempts.ended) (flat_map attempt_lines (opens w.actors)) (last_line w.cells.clock (told_of version w).bytes)

  pub adds_history : (w : World P) (s t u : StreamState) → Adds s t (lines_so_far version w.base w.attempts.ended)
      → Adds t u (flat_map attempt_lines (opens w.actors) ++ last_line w.cells.clock (told_of version w).bytes) → Adds s u (history_text (told_of version w))
  adds_history w s t u p q = adds_as s u _ _ (adds_then s t u _ _ p q) (sym (text_of w))

  -- a write failed before all of it was written
  pub adds_cut : (w : World P) (s t : StreamState) (e : Error) → Adds s t (lines_so_far version w.base w.attempts.ended) → t.fault ≡ Some e → Adds s t (history_text (told_of version w))
  adds_cut w s t e p failed = adds_as s t _ _ (adds_failed s t e _ _ p failed) (sym (text_of w))

take_all : (xs : List ℕ) → take (length xs) xs ≡ xs
take_all xs = grind (arith, common_steps)

-- the numbers of a whole history
pub history_fits : {P : Type 0} (version : Version) (a b : World P) (s t : StreamState) → IsBytes a.base × All AttemptFits a.attempts.ended → AddsEnded a b s t → t.fault ≡ None
    → All AttemptFits (opens b.actors) × IsWord b.cells.clock × IsBytes (told_of version b).bytes → HistoryFits (told_of version b)
history_fits version a b s t first f good last = record {
  memory = subst IsBytes (sym f.base) first.0;
  attempts = All-append AttemptFits b.attempts.ended (opens b.actors) (subst (All AttemptFits) (sym f.ended) (All-append AttemptFits a.attempts.ended f.more first.1 (f.fits good))) last.0;
  clock = last.1;
  bytes = last.2;
}

-- ## The lines of some attempts

attempts_taken : (all : List Attempt) (i : ℕ) → flat_map attempt_lines (take i all) ++ flat_map attempt_lines (drop i all) ≡ flat_map attempt_lines all
attempts_taken all i = sym (flat_map-append attempt_lines (take i all) (drop i all)) ∙ ap (λ (l : List Attempt). flat_map attempt_lines l) (take-append-drop i all)

-- a write failed before all of them were written
pub attempts_stopped : (a b : StreamState) (all : List Attempt) (i : ℕ) (e : Error) → Adds a b (flat_map attempt_lines (take i all)) → b.fault ≡ Some e → Adds a b (flat_map attempt_lines all)
attempts_stopped a b all i e p failed = adds_as a b _ _ (adds_failed a b e _ _ p failed) (attempts_taken all i)

-- ## Where a write of the whole failed

leaves_front : (f : Option Error) (e : Error) (u v : Option (List ℕ)) (x : List ℕ) → Leaves f (Some e) u v x → Front u v x
leaves_front None e u v x p = (p.0, p.2)
leaves_front (Some d) e u v x p = (0, Appends-kept u u v [] (Appends-nil u) p.1)

adds_front : (s t : StreamState) (e : Error) (x : List ℕ) → t.fault ≡ Some e → Adds s t x → Front s.written t.written x
unfolding Adds
adds_front s t e x failed p = leaves_front s.fault e s.written t.written x (subst (λ (g : Option Error). Leaves s.fault g s.written t.written x) failed p)

module _ {P : Type 0} (rules : Rules P) (version : Version) (items : List Item) (a c : World P) where
  -- after an event
  pub cut_off : (s t u : StreamState) (e : Error) → t.fault ≡ None → u.fault ≡ Some e → Adds s t (lines_so_far version a.base a.attempts.ended) → AddsEnded a c t u → Fails rules (ItemsBegin rules items) a c t u → IsCutOff rules version items a c s.written u.written
  cut_off s t u e good failed p ended f = record {
    begun = f.all;
    got = inl (subst (λ (b : List ℕ). Front s.written u.written (lines_so_far version b c.attempts.ended)) ended.base (adds_front s u e _ failed (adds_lines version a c s t u p ended)));
    told = inr (
      f.before,
      f.first,
      inr f.last,
      subst (HasWhole s.written u.written) (sym (ap (lines_so_far version a.base) f.ended ∙ so_far_more version a.base a.attempts.ended f.more)) (begins_after s t u.written _ _ (adds_fresh s t _ good p) good p f.told),
    );
  }

  -- after the last event
  cut_last : (s t u : StreamState) (e : Error) (y : List ℕ) → t.fault ≡ None → u.fault ≡ Some e → Adds s t (lines_so_far version c.base c.attempts.ended) → Adds t u y → Adds s u (history_text (told_of version c)) → c.base ≡ a.base → ItemsLead rules items a c → IsCutOff rules version items a c s.written u.written
  cut_last s t u e y good failed p q whole base l = record {
    begun = items_whole rules a c items l;
    got = inr (l, adds_front s u e _ failed whole);
    told = inr (
      c,
      items_whole rules a c items l,
      inl refl,
      subst (λ (b : List ℕ). HasWhole s.written u.written (lines_so_far version b c.attempts.ended)) base (begins_with s t u _ _ (adds_fresh s t _ good p) good p q),
    );
  }

  pub stops_last : {A : Type 0} (s t u : StreamState) (r : Result A Error) (y : List ℕ) → t.fault ≡ None → u.fault ≡ result_err r → Adds s t (lines_so_far version c.base c.attempts.ended) → Adds t u y → Adds s u (history_text (told_of version c)) → c.base ≡ a.base → ItemsLead rules items a c → OnErr r (IsCutOff rules version items a c s.written u.written)
  stops_last s t u (Ok x) y good told p q whole base l = record {}
  stops_last s t u (Err e) y good told p q whole base l = cut_last s t u e y good told p q whole base l

  pub cut_as : (u v w t : Option (List ℕ)) → IsCutOff rules version items a c u t → u ≡ w → v ≡ t → IsCutOff rules version items a c w v
  cut_as u v w t p first last =
      subst (λ (x : Option (List ℕ)). IsCutOff rules version items a c x v) first (subst (λ (x : Option (List ℕ)). IsCutOff rules version items a c u x) (sym last) p)

  -- before the first one
  pub cut_first : (s t : StreamState) (e : Error) → c ≡ a → t.fault ≡ Some e → Adds s t (lines_so_far version a.base a.attempts.ended) → IsCutOff rules version items a c s.written t.written
  cut_first s t e same failed p = record {
    begun = subst (λ (w : World P). ItemsBegin rules items a w) (sym same) (items_unbegun rules a items);
    got = inl (subst (λ (w : World P). Front s.written t.written (lines_so_far version a.base w.attempts.ended)) (sym same) (adds_front s t e _ failed p));
    told = inl same;
  }

  -- all was written, and then it could not be handed on
  pub cut_whole : (u v : Option (List ℕ)) → Appends u v (history_text (told_of version c)) → c.base ≡ a.base → ItemsLead rules items a c → IsCutOff rules version items a c u v
  cut_whole u v p base l = record {
    begun = items_whole rules a c items l;
    got = inr (l, (length (history_text (told_of version c)), subst (Appends u v) (sym (take_all (history_text (told_of version c)))) p));
    told = inr (
      c,
      items_whole rules a c items l,
      inl refl,
      (
        flat_map attempt_lines (opens c.actors) ++ last_line c.cells.clock (told_of version c).bytes,
        subst (Appends u v) (text_of version c ∙ ap (λ (b : List ℕ). lines_so_far version b c.attempts.ended ++ (flat_map attempt_lines (opens c.actors) ++ last_line c.cells.clock (told_of version c).bytes)) base) p,
      ),
    );
  }
