-- What words had been found with stays true of a history that grows.
use Rattle.std.proofs.Common.{◌≡◌, ℕ, zero, suc, ◌≤◌, List, [], ◌∷◌, ◌++◌, length, get_or, take, sym, refl, ap, ◌∙◌, arith, append-nil}
use Rattle.shared_words.proofs.Common.{AllMet, Met, StartsWith, after, get_elem?, some, some-injective, some-ne-none, stored, take-append-le, take_all, take_at}
use Rattle.shared_words.proofs.ListPlaces.{starts_le}

abbrev pub Log : Type 0
Log = List (List (ℕ × ℕ))

abbrev pub Later : Log → ℕ → List (ℕ × ℕ) → Log → Type 0
Later h i c l = (d : List (ℕ × ℕ)) × (get_elem? l i ≡ some d) × (take i l ≡ take i h) × StartsWith d c

abbrev pub Grows : Log → Log → Type 0
Grows h l = (i : ℕ) (c : List (ℕ × ℕ)) → get_elem? h i ≡ some c → Later h i c l

met_grows : (m : List ℕ) (h l : Log) (x : ℕ × ℕ × ℕ) → Grows h l → Met m h x → Met m l x
met_grows m h l x g t =
    let r = g t.commits t.next t.there in
    let s : StartsWith r.0 t.next = r.3 in
    let le : length t.next ≤ length r.0 = starts_le r.0 t.next s in
    let few = t.few in
    let same : take t.stores r.0 ≡ take t.stores t.next = ap (take t.stores) s.1 ∙ take-append-le t.stores t.next s.0 t.few in
    record {
      commits = t.commits;
      next = r.0;
      stores = t.stores;
      late = t.late;
      there = r.1;
      few = omega arith;
      value = t.value ∙ (λ i. get_or (stored (after m (sym r.2 i)) (sym same i)) x.0 0);
    }

pub all_grows : (m : List ℕ) (h l : Log) (xs : List (ℕ × ℕ × ℕ)) → Grows h l → AllMet m h xs → AllMet m l xs
all_grows m h l [] g a = tt
all_grows m h l (x ∷ xs) g a = (met_grows m h l x g a.0, all_grows m h l xs g a.1)

pub grows_store : (h : Log) (p q : List (ℕ × ℕ)) → Grows (h ++ p ∷ []) (h ++ (p ++ q) ∷ [])
grows_store [] p q zero c e = (p ++ q, refl, refl, (q, ap (λ (d : List (ℕ × ℕ)). d ++ q) (some-injective p c e)))
grows_store [] p q (suc i) c e = absurd (some-ne-none c (sym e))
grows_store (x ∷ xs) p q zero c e = (x, refl, refl, ([], some-injective x c e ∙ sym (append-nil c)))
grows_store (x ∷ xs) p q (suc i) c e =
    let r = grows_store xs p q i c e in
    (r.0, r.1, ap (λ (l : Log). x ∷ l) r.2, r.3)

pub grows_commit : (h : Log) (p : List (ℕ × ℕ)) → Grows h (h ++ p ∷ [])
grows_commit [] p i c e = absurd (some-ne-none c (sym e))
grows_commit (x ∷ xs) p zero c e = (x, refl, refl, ([], some-injective x c e ∙ sym (append-nil c)))
grows_commit (x ∷ xs) p (suc i) c e =
    let r = grows_commit xs p i c e in
    (r.0, r.1, ap (λ (l : Log). x ∷ l) r.2, r.3)

last_there : (h : Log) (p : List (ℕ × ℕ)) → get_elem? (h ++ p ∷ []) (length h) ≡ some p
last_there [] p = refl
last_there (x ∷ xs) p = last_there xs p

-- a word that is loaded now
pub met_now : (m : List ℕ) (h : Log) (p : List (ℕ × ℕ)) (k n least : ℕ) → least ≤ length h → n ≡ get_or (stored (after m h) p) k 0 → Met m (h ++ p ∷ []) (k, n, least)
met_now m h p k n least late e =
    let whole : take (length h) (h ++ p ∷ []) ≡ h = take_at h (p ∷ []) (length h) refl in
    let all : take (length p) p ≡ p = take_all (length p) p (omega arith) in
    record {
      commits = length h;
      next = p;
      stores = length p;
      late = late;
      there = last_there h p;
      few = omega arith;
      value = e ∙ (λ i. get_or (stored (after m (sym whole i)) (sym all i)) k 0);
    }
