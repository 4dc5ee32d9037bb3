-- What each thread comes to, and all of them.
use Rattle.std.proofs.Common.{◌≡◌, ◌∙◌, slice_get, Some, ℕ, zero, suc, ◌+◌, ◌<◌, List, [], ◌∷◌, ◌++◌, length, get_or, ap, refl, subst, sym, arith, append_assoc, length-append, ⊎_elim}
use Rattle.std.{specs.List.flat_map, proofs.lemmas.Option.none-some, proofs.lemmas.Option.same_Some, specs.Borrow.MutBor}
use denote.Param.Members.{Shared}
use Rattle.itm_types.{specs.declared.limits.TheConstants.MAX_COMMITS, specs.declared.limits.TheConstants.USUAL_DEPTH}
use Rattle.norec_core.specs.Core.{Core, opening}
use Rattle.shared_words.proofs.ListPlaces.{starts_self, starts_trans}
use Rattle.shared_words.specs.declared.view.View.{View}
use Rattle.shared_words.specs.{Commits.StartsWith, Commits.Stores, InGlobal.Words, Passes.view_of, Steps.Joined}
use Rattle.transactions.specs.declared.client.Client.{Client}
use Rattle.tx_threads.specs.{Seats.AllNew, Seats.HasUsualLimits, Seats.IsNewClient, declared.seats.Seat.Seat}
use Rattle.tx_threads.specs.Threads.{AllBegin, AllHaveRun, AreServed, EachHasRun, HasRun, HasServed, IsServed, KeepsWords, seat_view}

abbrev mine_of : View → List ℕ
mine_of v = v.mine

nothing_more : {A : Type 0} → (xs : List A) → xs ++ [] ≡ xs
nothing_more [] = refl
nothing_more {A} (x ∷ xs) = ap (λ (l : List A). x ∷ l) (nothing_more xs)

all_longer : (log some : List Stores) (vs : List View) → StartsWith log some → AllBegin some vs → AllBegin log vs
all_longer log some [] a b = tt
all_longer log some (v ∷ vs) a b = (starts_trans log some v.seen a b.0, all_longer log some vs a b.1)

both_begin : (log : List Stores) (vs ws : List View) → AllBegin log vs → AllBegin log ws → AllBegin log (vs ++ ws)
both_begin log [] ws a b = b
both_begin log (v ∷ vs) ws a b = (a.0, both_begin log vs ws a.1 b)

mine_append : (vs ws : List View) → flat_map mine_of (vs ++ ws) ≡ flat_map mine_of vs ++ flat_map mine_of ws
mine_append [] ws = refl
mine_append (v ∷ vs) ws = ap (λ (l : List ℕ). v.mine ++ l) (mine_append vs ws) ∙ sym (append_assoc v.mine (flat_map mine_of vs) (flat_map mine_of ws))

-- a joined view has seen what either had
knows_both : (v u w : View) → Joined v u w → StartsWith w.seen v.seen × StartsWith w.seen u.seen
knows_both v u w j = ⊎_elim
    (λ a. subst (λ (h : List Stores). StartsWith h v.seen × StartsWith h u.seen) (sym a.1) (starts_self v.seen, a.0))
    (λ b. subst (λ (h : List Stores). StartsWith h v.seen × StartsWith h u.seen) (sym b.1) (b.0, starts_self u.seen))
    j.longer

-- an engine that was opened with these limits has them
pub opened_so : (engine : Core) (words : ℕ) (arena : List ℕ) → engine ≡ opening words arena 8 MAX_COMMITS USUAL_DEPTH 0 → HasUsualLimits engine
opened_so engine words arena e = record {
  patience = ap (λ (c : Core). c.patience) e;
  depth = ap (λ (c : Core). c.depth) e;
  restarts = ap (λ (c : Core). c.restarts) e;
  commits = ap (λ (c : Core). c.max_commits) e;
}

module _ {F T : Type 0} (fn : Shared F (ℕ × (MutBor Client × Unit {0})) (T × (MutBor Client × Unit {0}))) (f : F) (words : Words) (base : List ℕ) (tries : ℕ) where
  one_served : KeepsWords fn f → (n : ℕ) (old new : Seat T) → IsNewClient words base tries old.client → HasServed fn f n old new → IsServed fn f words base tries n new
  one_served keeps n old new begins s =
      let lent : IsNewClient words base tries s.lent.now = subst (IsNewClient words base tries) (sym s.lends) begins in
      record {
        value = s.value;
        given = s.gives;
        here = ap (λ (c : Client). c.transaction.words) (sym s.leaves) ∙ keeps n s.lent s.left s.value s.runs ∙ lent.here;
        run = record { lent = s.lent; left = s.left; begins = lent; runs = s.runs; ends = ap (λ (c : Client). view_of c.transaction.thread.pass) (sym s.leaves) };
      }

  pub all_served : KeepsWords fn f → (n : ℕ) (olds news : List (Seat T)) → length news ≡ length olds
      → ((i : ℕ) (d : Seat T) → i < length olds → HasServed fn f (n + i) (get_or olds i d) (get_or news i d))
      → AllNew words base tries olds → AreServed fn f words base tries n news
  all_served keeps n [] [] size each begins = tt
  all_served keeps n [] (y ∷ ys) size each begins = absurd (omega (arith, size))
  all_served keeps n (x ∷ xs) [] size each begins = absurd (omega (arith, size))
  all_served keeps n (x ∷ xs) (y ∷ ys) size each begins =
      let here : n + 0 ≡ n = omega arith in
      let first : HasServed fn f n x y = subst (λ (k : ℕ). HasServed fn f k x y) here (each 0 x (omega arith)) in
      let rest : (i : ℕ) (d : Seat T) → i < length xs → HasServed fn f (suc n + i) (get_or xs i d) (get_or ys i d) =
      λ i d less. (let next : n + suc i ≡ suc n + i = omega arith in subst (λ (k : ℕ). HasServed fn f k (get_or xs i d) (get_or ys i d)) next (each (suc i) d (omega (arith, less)))) in
      (one_served keeps n x y begins.0 first, all_served keeps (suc n) xs ys (omega (arith, size)) rest begins.1)

  runs_append : (n m : ℕ) (xs ys : List T) (vs ws : List View) → m ≡ n + length xs → EachHasRun fn f words base tries n xs vs → EachHasRun fn f words base tries m ys ws → EachHasRun fn f words base tries n (xs ++ ys) (vs ++ ws)
  runs_append n m [] ys [] ws e a b = let same : m ≡ n = omega (arith, e) in subst (λ (k : ℕ). EachHasRun fn f words base tries k ys ws) same b
  runs_append n m (x ∷ xs) ys (v ∷ vs) ws e a b = let next : m ≡ suc n + length xs = omega (arith, e) in (a.0, runs_append (suc n) m xs ys vs ws next a.1 b)
  runs_append n m [] ys (v ∷ vs) ws e a b = absurd a
  runs_append n m (x ∷ xs) ys [] ws e a b = absurd a

  -- before any thread is joined
  pub none_run : (v : View) → v.mine ≡ [] → AllHaveRun fn f words base tries 0 [] v
  none_run v none = record { count_is = refl; views = []; each = tt; mine = none; begin = tt }

  -- and once the next one is
  pub one_more : (n : ℕ) (values more : List T) (seat : Seat T) (r : T) (v w : View) → AllHaveRun fn f words base tries n values v → IsServed fn f words base tries n seat
      → seat.value ≡ Some r → Joined v (seat_view seat) w → more ≡ values ++ r ∷ [] → AllHaveRun fn f words base tries (n + 1) more w
  one_more n values more seat r v w all s gives j is =
      let u : View = seat_view seat in
      let knows = knows_both v u w j in
      let here : s.value ≡ r = same_Some s.value r (sym s.given ∙ gives) in
      let run : HasRun fn f words base tries n r u = subst (λ (x : T). HasRun fn f words base tries n x u) here s.run in
      let at : n ≡ 0 + length values = omega (arith, all.count_is) in
      subst (λ (xs : List T). AllHaveRun fn f words base tries (n + 1) xs w) (sym is) (record {
        count_is = omega (arith, all.count_is, length-append values (r ∷ []));
        views = all.views ++ u ∷ [];
        each = runs_append 0 n values (r ∷ []) all.views (u ∷ []) at all.each (run, tt);
        mine = j.mine ∙ ap (λ (l : List ℕ). l ++ u.mine) all.mine ∙ ap (λ (l : List ℕ). flat_map mine_of all.views ++ l) (sym (nothing_more u.mine)) ∙ sym (mine_append all.views (u ∷ []));
        begin = both_begin w.seen all.views (u ∷ []) (all_longer w.seen v.seen all.views knows.0 all.begin) (knows.1, tt);
      })

  -- what each run of the body gives is so
  pub each_given : (P : T → Type 0) → ((n : ℕ) (lent left : MutBor Client) (r : T) → fn.post f (n, (lent, tt)) (r, (left, tt)) → P r) → (n : ℕ) (xs : List T) (vs : List View) → EachHasRun fn f words base tries n xs vs → (i : ℕ) (x : T) → slice_get xs i ≡ Some x → P x
  each_given P so n [] vs each i x e = absurd (none-some x e)
  each_given P so n (y ∷ ys) [] each i x e = absurd each
  each_given P so n (y ∷ ys) (v ∷ vs) each zero x e = subst P (same_Some y x e) (so n each.0.lent each.0.left y each.0.runs)
  each_given P so n (y ∷ ys) (v ∷ vs) each (suc i) x e = each_given P so (suc n) ys vs each.1 i x e
