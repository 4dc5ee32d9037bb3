-- Texts that a stream writes, one after another.
use Rattle.std.proofs.Common.{◌≡◌, false, true≢false, refl, ℕ, ◌+◌, ◌<◌, List, [], ◌++◌, length, take, Option, None, Some, Result, Ok, Err, sym, ap, ◌∙◌, subst, append-nil, arith, IsErr, OnOk, get_or, flat_map, is_some}
use Rattle.tx_history.proofs.Common.{Adds, Appends, Appends-kept, Appends-nil, Appends-trans, Attempt, Error, Grows, IsCut, Keeps-refl, Keeps-trans, Leaves, Page, Puts, Sends, Spells, StreamState, attempt_lines, flat_map_more, length-append, result_err, stream_state, take-append-le, take_more}
use Rattle.tx_history.proofs.TextPieces.{cut_short}

leaves_nothing : (f : Option Error) (u : Option (List ℕ)) → Leaves f f u u []
leaves_nothing None u = Appends-nil u
leaves_nothing (Some e) u = (refl, Keeps-refl u)

leaves_then : (f g h : Option Error) (u v w : Option (List ℕ)) (x y : List ℕ) → Leaves f g u v x → Leaves g h v w y → Leaves f h u w (x ++ y)
leaves_then None None None u v w x y p q = Appends-trans u v w x y p q
leaves_then None None (Some e) u v w x y p q = cut_short u v w x y [] (x ++ y) p q (ap (λ (l : List ℕ). x ++ l) (sym (append-nil y)))
leaves_then None (Some e) None u v w x y p q = absurd q
leaves_then None (Some e) (Some f) u v w x y p q = (
  p.0,
  omega (arith, p.1, length-append x y),
  subst (Appends u w) (sym (take-append-le p.0 x y (omega (arith, p.1)))) (Appends-kept u v w _ p.2 q.1),
)
leaves_then (Some d) None h u v w x y p q = absurd p
leaves_then (Some d) (Some e) None u v w x y p q = absurd q
leaves_then (Some d) (Some e) (Some f) u v w x y p q = (q.0 ∙ p.0, Keeps-trans u v w p.1 q.1)

-- nothing is written
pub adds_nothing : (a : StreamState) → Adds a a []
unfolding Adds
adds_nothing a = leaves_nothing a.fault a.written

-- one text after another
pub adds_then : (a b c : StreamState) (x y : List ℕ) → Adds a b x → Adds b c y → Adds a c (x ++ y)
unfolding Adds
adds_then a b c x y p q = leaves_then a.fault b.fault c.fault a.written b.written c.written x y p q

-- a stream that has failed loses each text
pub adds_lost : (a : StreamState) (e : Error) (y : List ℕ) → a.fault ≡ Some e → Adds a a y
unfolding Adds
adds_lost a e y failed = subst (λ (f : Option Error). Leaves f f a.written a.written y) (sym failed) (refl, Keeps-refl a.written)

-- where a write has failed, what is written is a beginning of more too
pub adds_failed : (a b : StreamState) (e : Error) (x y : List ℕ) → Adds a b x → b.fault ≡ Some e → Adds a b (x ++ y)
adds_failed a b e x y p failed = adds_then a b b x y p (adds_lost b e y failed)

pub adds_as : (a b : StreamState) (x y : List ℕ) → Adds a b x → x ≡ y → Adds a b y
adds_as a b x y p e = subst (Adds a b) e p

grown_leaves : (w v : Option (List ℕ)) (g : Option Error) (p q x : List ℕ) → p ≡ [] → q ≡ [] → Grows (record { failed = false; written = w; page = p }) (record { failed = is_some g; written = v; page = q }) x → Leaves None g w v x
grown_leaves w v None p q x h k c = subst (Appends w v) (sym (append-nil c.gone) ∙ ap (λ (l : List ℕ). c.gone ++ l) (sym k) ∙ sym c.goes ∙ ap (λ (l : List ℕ). l ++ x) h) c.written
grown_leaves w v (Some e) p q x h k c =
    let all : p ++ x ≡ x = ap (λ (l : List ℕ). l ++ x) h in
    (c.goes.0, subst (λ (l : List ℕ). c.goes.0 < length l) all c.goes.1, subst (Appends w v) (c.goes.2 ∙ ap (take c.goes.0) all) c.written)

-- a stream that had not failed, which began on an empty page and ended on one, has written a text
adds_grown : (a b : StreamState) (w : Option (List ℕ)) (f : Option Error) (p q x : List ℕ) → a.fault ≡ None → w ≡ a.written → f ≡ a.fault → p ≡ [] → q ≡ []
    → Grows (record { failed = is_some f; written = w; page = p }) (record { failed = is_some b.fault; written = b.written; page = q }) x → Adds a b x
unfolding Adds
adds_grown a b w f p q x fresh first same h k c =
    let before = subst (λ (e : Option Error). Grows (record { failed = is_some e; written = w; page = p }) (record { failed = is_some b.fault; written = b.written; page = q }) x) (same ∙ fresh) c in
    let from_none = grown_leaves w b.written b.fault p q x h k before in
    subst (λ (e : Option Error). Leaves e b.fault a.written b.written x) (sym fresh) (subst (λ (u : Option (List ℕ)). Leaves None b.fault u b.written x) first from_none)

on_ok : {A E P : Type 0} (r : Result A E) → P → OnOk r P
on_ok (Ok x) p = p
on_ok (Err e) p = record {}

module _ {W A : Type 0} {contents : W → Option (List ℕ)} where
  -- a stream that had failed answers its fault before it writes
  pub sends_refused : (a : Page W) (r : Result A Error) (e : Error) (text : List ℕ) (typed : Type 0) → a.error ≡ Some e → r ≡ Err e → Sends contents a a text typed r
  sends_refused a r e text typed failed told = record {
    same = refl;
    adds = adds_lost (stream_state contents a) e text failed;
    answer = failed ∙ sym (ap (result_err {T = A} {E = Error}) told);
    fits = subst (λ (q : Result A Error). OnOk q typed) (sym told) (record {});
  }

  -- one that had not begins on an empty page, and writes it
  pub sends_grown : (a b : Page W) (p : Page W) (r : Result A Error) (text : List ℕ) (typed : Type 0) → a.error ≡ None
      → p.writer.ghost_name ≡ a.writer.ghost_name → (p.writer.now ≡ a.writer.now) × (p.error ≡ a.error) → p.bytes.items ≡ [] → b.bytes.items ≡ []
      → Spells contents p b text typed → result_err r ≡ b.error → Sends contents a b text typed r
  sends_grown a b p r text typed fresh name kept first last q told = record {
    same = q.carries.same ∙ name;
    adds = adds_grown (stream_state contents a) (stream_state contents b) _ _ _ _ text fresh (ap contents kept.0) kept.1 first last q.carries.grows;
    answer = sym told;
    fits = on_ok r q.fits;
  }

told_as_put : {A : Type 0} (r : Result A Error) (u v : Option (List ℕ)) (x : List ℕ) → Leaves None (result_err r) u v x → Puts u v r x
told_as_put (Ok a) u v x p = p
told_as_put (Err f) u v x p = p

-- of one that was new, what its caller tells, as its writer has it afterwards
pub put_through : {A : Type 0} (w v : Option (List ℕ)) (a b : StreamState) (r : Result A Error) (x : List ℕ)
    → Adds a b x → a ≡ record { written = w; fault = None } → b.fault ≡ result_err r → v ≡ b.written → Puts w v r x
unfolding Adds
put_through w v a b r x p fresh told last =
    let began = subst (λ (s : StreamState). Leaves s.fault b.fault s.written b.written x) fresh p in
    let ended = subst (λ (f : Option Error). Leaves None f w b.written x) told began in
    subst (λ (u : Option (List ℕ)). Puts w u r x) (sym last) (told_as_put r w b.written x ended)

told_as_cut : {A E : Type 0} (r : Result A E) (u v : Option (List ℕ)) (x : List ℕ) → IsErr r → IsCut u v x → Puts u v r x
told_as_cut (Ok a) u v x failed p = absurd (true≢false (sym failed))
told_as_cut (Err e) u v x failed p = p

-- one whose caller stops where a write has failed, and tells some error
pub cut_through : {A E : Type 0} (w v : Option (List ℕ)) (a b : StreamState) (r : Result A E) (e : Error) (x : List ℕ)
    → Adds a b x → a ≡ record { written = w; fault = None } → b.fault ≡ Some e → v ≡ b.written → IsErr r → Puts w v r x
cut_through w v a b r e x p fresh failed last told =
    told_as_cut r w v x told (put_through {A = Unit {0}} w v a b (Err e) x p fresh failed last)

-- the next one of some attempts
pub adds_attempt : (a b c : StreamState) (all : List Attempt) (i : ℕ) (d : Attempt)
    → i < length all → Adds a b (flat_map attempt_lines (take i all)) → Adds b c (attempt_lines (get_or all i d)) → Adds a c (flat_map attempt_lines (take (i + 1) all))
adds_attempt a b c all i d h p q =
    subst (λ (l : List Attempt). Adds a c (flat_map attempt_lines l)) (sym (take_more all i d h)) (subst (Adds a c) (flat_map_more attempt_lines [] (take i all) (get_or all i d)) (adds_then a b c _ _ p q))
