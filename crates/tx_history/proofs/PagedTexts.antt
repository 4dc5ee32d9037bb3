-- A text that goes to its writer page by page.
use Rattle.std.proofs.Common.{◌≡◌, refl, ℕ, ◌+◌, ◌<◌, Bool, true, false, List, [], ◌++◌, length, take, Option, None, Result, Ok, Err, sym, ap, ◌∙◌, subst, append-nil, append_assoc, arith, is_err, is_some}
use Rattle.tx_history.proofs.Common.{Appends, Appends-nil, Appends-trans, Carries, Error, Grows, IsSent, Page, Puts, Sheet, Spells, length-append, result_err, take-append-add, take-append-le}

-- nothing is written
pub grows_nil : (f : Bool) (w : Option (List ℕ)) (p : List ℕ) → Grows (record { failed = f; written = w; page = p }) (record { failed = f; written = w; page = p }) []
grows_nil false w p = record { gone = []; written = Appends-nil w; goes = append-nil p }
grows_nil true w p = record { gone = []; written = Appends-nil w; goes = refl }

-- the page takes a text
pub held : (f : Bool) (w : Option (List ℕ)) (p text : List ℕ) → Grows (record { failed = f; written = w; page = p }) (record { failed = f; written = w; page = p ++ text }) text
held false w p text = record { gone = []; written = Appends-nil w; goes = refl }
held true w p text = record { gone = []; written = Appends-nil w; goes = refl }

-- the writer is given the page
pub turned : {A E : Type 0} (w v : Option (List ℕ)) (r : Result A E) (p : List ℕ) → Puts w v r p → Grows (record { failed = false; written = w; page = p }) (record { failed = is_err r; written = v; page = [] }) []
turned w v (Ok x) p q = record { gone = p; written = q; goes = refl }
turned w v (Err e) p q = record { gone = take q.0 p; written = q.2; goes = (q.0, subst (λ (l : List ℕ). q.0 < length l) (sym (append-nil p)) q.1, ap (take q.0) (sym (append-nil p))) }

-- once a write has failed, it is lost
pub lost : (w : Option (List ℕ)) (p v text : List ℕ) → Grows (record { failed = true; written = w; page = p }) (record { failed = true; written = w; page = v }) text
lost w p v text = record { gone = []; written = Appends-nil w; goes = refl }

-- the writer is given a text past the page
pub given : {A E : Type 0} (w v : Option (List ℕ)) (r : Result A E) (text : List ℕ) → Puts w v r text → Grows (record { failed = false; written = w; page = [] }) (record { failed = is_err r; written = v; page = [] }) text
given w v (Ok x) text q = record { gone = text; written = q; goes = sym (append-nil text) }
given w v (Err e) text q = record { gone = take q.0 text; written = q.2; goes = (q.0, q.1, refl) }

joined : (p x y gone page : List ℕ) → p ++ x ≡ gone ++ page → p ++ (x ++ y) ≡ gone ++ (page ++ y)
joined p x y gone page e = sym (append_assoc p x y) ∙ ap (λ (l : List ℕ). l ++ y) e ∙ append_assoc gone page y

goes_then : (f g h : Bool) (p x gone q y more r : List ℕ) → IsSent f g (p ++ x) gone q → IsSent g h (q ++ y) more r → IsSent f h (p ++ (x ++ y)) (gone ++ more) r
goes_then false false false p x gone q y more r a b = joined p x y gone q a ∙ ap (λ (l : List ℕ). gone ++ l) b ∙ sym (append_assoc gone more r)
goes_then false false true p x gone q y more r a b =
    let whole = joined p x y gone q a in (
      length gone + b.0,
      omega (arith, b.1, ap (length {A = ℕ}) whole, length-append gone (q ++ y)),
      ap (λ (l : List ℕ). gone ++ l) b.2 ∙ sym (take-append-add gone (q ++ y) b.0) ∙ ap (take (length gone + b.0)) (sym whole),
    )
goes_then false true true p x gone q y more r a b = (
  a.0,
  omega (arith, a.1, ap (length {A = ℕ}) (append_assoc p x y), length-append (p ++ x) y),
  ap (λ (l : List ℕ). gone ++ l) b ∙ append-nil gone ∙ a.2 ∙ sym (take-append-le a.0 (p ++ x) y (omega (arith, a.1))) ∙ ap (take a.0) (append_assoc p x y),
)
goes_then true true true p x gone q y more r a b = ap (λ (l : List ℕ). l ++ more) a ∙ b
goes_then false true false p x gone q y more r a b = absurd b
goes_then true true false p x gone q y more r a b = absurd b
goes_then true false h p x gone q y more r a b = absurd a

-- one text after another
pub grows_then : (a b c : Sheet) (x y : List ℕ) → Grows a b x → Grows b c y → Grows a c (x ++ y)
grows_then a b c x y p q = record {
  gone = p.gone ++ q.gone;
  written = Appends-trans a.written b.written c.written p.gone q.gone p.written q.written;
  goes = goes_then a.failed b.failed c.failed a.page x p.gone b.page y q.gone c.page p.goes q.goes;
}

-- nothing more is written
pub grows_end : (a b c : Sheet) (x : List ℕ) → Grows a b x → Grows b c [] → Grows a c x
grows_end a b c x p q = subst (Grows a c) (append-nil x) (grows_then a b c x [] p q)

told_by : {A E : Type 0} (w v : Option (List ℕ)) (r : Result A E) (text gone : List ℕ) → Appends w v gone → IsSent false (is_some (result_err r)) text gone [] → Puts w v r text
told_by w v (Ok x) text gone p q = subst (Appends w v) (sym (append-nil gone) ∙ sym q) p
told_by w v (Err e) text gone p q = (q.0, q.1, subst (Appends w v) q.2 p)

closed : {A E : Type 0} (w v : Option (List ℕ)) (r : Result A E) (a b c : Sheet) (text : List ℕ)
    → Grows a b text → Grows b c [] → a.failed ≡ false → a.page ≡ [] → is_some (result_err r) ≡ c.failed → c.page ≡ [] → w ≡ a.written → v ≡ c.written → Puts w v r text
closed w v r a b c text p q fresh empty told last first end =
    let all = grows_end a b c text p q in
    let goes : IsSent false (is_some (result_err r)) text all.gone [] = rw (sym fresh) (rw told (subst (λ (l : List ℕ). IsSent a.failed c.failed (l ++ text) all.gone []) empty (subst (IsSent a.failed c.failed (a.page ++ text) all.gone) last all.goes))) in
    rw first (rw end (told_by a.written c.written r text all.gone all.written goes))

-- ## What functions over a page do

module _ {W : Type 0} {contents : W → Option (List ℕ)} where
  pub carries_none : (a : Page W) → Carries contents a a []
  carries_none a = record { same = refl; grows = grows_nil (is_some a.error) (contents a.writer.now) a.bytes.items }

  -- one text after another
  pub carries_then : {a b c : Page W} {x y : List ℕ} → Carries contents a b x → Carries contents b c y → Carries contents a c (x ++ y)
  carries_then {a} {b} {c} {x} {y} p q = record { same = q.same ∙ p.same; grows = grows_then _ _ _ x y p.grows q.grows }

  pub carries_as : (a b : Page W) (x y : List ℕ) → Carries contents a b x → x ≡ y → Carries contents a b y
  carries_as a b x y p e = subst (Carries contents a b) e p

  -- one after another that is two
  pub carries_both : {a b c : Page W} {x : List ℕ} (y z : List ℕ) → Carries contents a b x → Carries contents b c (y ++ z) → Carries contents a c ((x ++ y) ++ z)
  carries_both {a} {b} {c} {x} y z p q = carries_as a c _ _ (carries_then p q) (sym (append_assoc x y z))

  -- or three
  pub carries_three : {a b c : Page W} {x : List ℕ} (y z w : List ℕ) → Carries contents a b x → Carries contents b c ((y ++ z) ++ w) → Carries contents a c (((x ++ y) ++ z) ++ w)
  carries_three {a} {b} {c} {x} y z w p q =
      carries_as a c _ _ (carries_then p q) (ap (λ (l : List ℕ). x ++ l) (append_assoc y z w) ∙ sym (append_assoc x y (z ++ w)) ∙ sym (append_assoc (x ++ y) z w))

  -- nothing more is written
  pub spells_end : (a b c : Page W) (x : List ℕ) (typed : Type 0) → Spells contents a b x typed → Carries contents b c [] → Spells contents a c x typed
  spells_end a b c x typed p q = record { carries = record { same = q.same ∙ p.carries.same; grows = grows_end _ _ _ x p.carries.grows q.grows }; fits = p.fits }

  -- what is told as a text ends
  pub closes : {A : Type 0} (w v : Option (List ℕ)) (r : Result A Error) (a b c : Page W) (text : List ℕ)
      → Carries contents a b text → Carries contents b c [] → a.error ≡ None → a.bytes.items ≡ [] → result_err r ≡ c.error → c.bytes.items ≡ [] → w ≡ contents a.writer.now → v ≡ contents c.writer.now → Puts w v r text
  closes w v r a b c text p q fresh empty told last first end = closed w v r _ _ _ text p.grows q.grows (ap is_some fresh) empty (ap is_some told) last first end
