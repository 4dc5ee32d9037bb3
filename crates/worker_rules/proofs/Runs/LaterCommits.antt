-- A run over commits that were seen later, and with one attempt more.
use Rattle.std.proofs.Common.{◌≡◌, ℕ, suc, ◌+◌, ◌≤◌, Bool, true, false, if◌then◌else◌, List, [], ◌∷◌, ◌++◌, length, Some, refl, sym, ap, ◌∙◌, ◌*◌, ◌<◌, arith, length-append}
use Rattle.worker_rules.proofs.Common.{AreLeft, AreOwn, AreSince, Attempt, Between, Course, HasRun, IsLeft, IsTryAt, Rules, View, Went, after_try, alone, begins_at, bytes_at, bytes_of, is_committed, known_after, known_by, memory_of, now_at, outrun_later, outrun_more, positions, went_on}
use Rattle.std.proofs.lemmas.List.{take-append-le}
use Rattle.shared_words.specs.Commits.{StartsWith, after, memory_at}
use Rattle.tx_runs.proofs.RunLists.{run_more, run_still}
use Rattle.run_rules.proofs.RestartLists.{few_more}
use Rattle.tx_attempts.specs.declared.attempt.Outcome.TheVariants.{Conflict}

-- ## Memories

-- w has the base of v, and has seen at least what v has, of the clock too
pub record IsLater (v w : View) : Type 0 where
  pub base : w.base ≡ v.base
  pub grows : StartsWith w.seen v.seen
  pub high : v.high ≤ w.high

pub later_of : (v w : View) → Went v w → IsLater v w
later_of v w went = record { base = went.base; grows = went.grows; high = went.high }

pub memory_in : (v w : View) → IsLater v w → (k : ℕ) → k ≤ length v.seen → memory_of w k ≡ memory_of v k
memory_in v w l k few = (λ i. memory_at (l.base i) (l.grows.1 i) k) ∙ ap (after v.base) (take-append-le k v.seen l.grows.0 few)

pub bytes_in : (v w : View) → IsLater v w → (k : ℕ) → k ≤ length v.seen → bytes_at w k ≡ bytes_at v k
bytes_in v w l k few = ap bytes_of (memory_in v w l k few)

pub seen_in : (v w : View) → IsLater v w → length v.seen ≤ length w.seen
seen_in v w l = (let n = ap length l.grows.1 ∙ length-append v.seen l.grows.0 in omega arith)

pub left_in : (deepest : ℕ) (v w : View) → IsLater v w → (a : Attempt) → IsLeft deepest v a → IsLeft deepest w a
left_in deepest v w later a l =
    let seen = l.seen in
    let more = seen_in v w later in
    let at : bytes_at w a.at ≡ bytes_at v a.at = bytes_in v w later a.at (omega arith) in
    record {
      seen = omega arith;
      leaves = bytes_in v w later (suc a.at) (omega arith) ∙ (l.leaves ∙ ap (λ (m : List ℕ). (alone deepest m a).memory) (sym at));
    }

pub all_left_in : (deepest : ℕ) (v w : View) → IsLater v w → (xs : List Attempt) → AreLeft deepest v xs → AreLeft deepest w xs
all_left_in deepest v w later [] l = tt
all_left_in deepest v w later (x ∷ xs) l = (λ c. left_in deepest v w later x (l.0 c), all_left_in deepest v w later xs l.1)

pub memory_later : (v w : View) → Went v w → (k : ℕ) → k ≤ length v.seen → memory_of w k ≡ memory_of v k
memory_later v w went = memory_in v w (later_of v w went)

-- ## One attempt more

left_more : (deepest : ℕ) (v : View) (xs : List Attempt) (a : Attempt) → AreLeft deepest v xs → (is_committed a.outcome ≡ true → IsLeft deepest v a) → AreLeft deepest v (xs ++ a ∷ [])
left_more deepest v [] a l h = (h, tt)
left_more deepest v (x ∷ xs) a l h = (l.0, left_more deepest v xs a l.1 h)

since_more : (known : ℕ) (xs : List Attempt) (a : Attempt) → AreSince known xs → known_after known xs ≤ a.began → AreSince known (xs ++ a ∷ [])
since_more known [] a s e = (e, tt)
since_more known (x ∷ xs) a s e = (s.0, since_more (known_by x) xs a s.1 e)

pub known_more : (known : ℕ) (xs : List Attempt) (a : Attempt) → known_after known (xs ++ a ∷ []) ≡ known_by a
known_more known [] a = refl
known_more known (x ∷ xs) a = known_more (known_by x) xs a

own_more : (thread tries : ℕ) (xs : List Attempt) (a : Attempt) → AreOwn thread tries xs → a.thread ≡ thread → a.nth ≤ tries → AreOwn thread tries (xs ++ a ∷ [])
own_more thread tries [] a o t n = (t, n, tt)
own_more thread tries (x ∷ xs) a o t n = (o.0, o.1, own_more thread tries xs a o.2 t n)

pub positions_more : (xs : List Attempt) (a : Attempt) → positions (xs ++ a ∷ []) ≡ positions xs ++ (if is_committed a.outcome then a.at ∷ [] else [])
positions_more [] a = refl
positions_more (x ∷ xs) a = by_outcome (is_committed x.outcome) (positions_more xs a)
  where
    by_outcome : (b : Bool) → positions (xs ++ a ∷ []) ≡ positions xs ++ (if is_committed a.outcome then a.at ∷ [] else []) → (if b then x.at ∷ positions (xs ++ a ∷ []) else positions (xs ++ a ∷ [])) ≡ (if b then x.at ∷ positions xs else positions xs) ++ (if is_committed a.outcome then a.at ∷ [] else [])
    by_outcome true more = ap (λ (ps : List ℕ). x.at ∷ ps) more
    by_outcome false more = more

module _ {P : Type 0} (rules : Rules P) (c : Course P) where
  -- over the commits of a later view
  pub run_later : (v w : View) → Went v w → (xs : List Attempt) → HasRun rules c v xs → HasRun rules c w xs × (now_at rules c w xs ≡ now_at rules c v xs)
  run_later v w went xs h =
      let l = later_of v w went in
      let more = seen_in v w l in
      let known = h.known in
      let still = run_still rules c.depth (length v.seen) (length w.seen) (bytes_at v) (bytes_at w) more (bytes_in v w l) (Some c.first) xs h.run in (
        record { went = went_on c.view v w h.went went; run = still.0; left = all_left_in c.depth v w l xs h.left; since = h.since; known = omega arith; own = h.own; few = h.few; outrun = outrun_later v.high w.high went.high xs h.outrun },
        still.1,
      )

  -- with one attempt more
  pub run_with : (v : View) (xs : List Attempt) (b : Between P) (a : Attempt) → HasRun rules c v xs → now_at rules c v xs ≡ Some b → IsTryAt rules c.depth (length v.seen) (bytes_at v) b (begins_at rules c.depth b) a
      → (is_committed a.outcome ≡ true → IsLeft c.depth v a) → known_after c.known xs ≤ a.began → known_by a ≤ length v.seen → a.thread ≡ c.number → a.nth ≤ c.retries + 1 → length a.restarts ≤ c.restarts → (a.outcome ≡ Conflict → 2 * a.at < v.high)
      → HasRun rules c v (xs ++ a ∷ []) × (now_at rules c v (xs ++ a ∷ []) ≡ after_try rules c.depth (bytes_at v) b (begins_at rules c.depth b) a)
  run_with v xs b a h now try left began known thread nth few outrun =
      let more = run_more rules c.depth (length v.seen) (bytes_at v) (Some c.first) xs b a h.run now try in (
        record {
          went = h.went;
          run = more.0;
          left = left_more c.depth v xs a h.left left;
          since = since_more c.known xs a h.since began;
          known = (let k = known_more c.known xs a in omega arith);
          own = own_more c.number (c.retries + 1) xs a h.own thread nth;
          few = few_more c.restarts xs a h.few few;
          outrun = outrun_more v.high xs a h.outrun outrun;
        },
        more.1,
      )
