-- Two actors that are alike are alike after their local work, and after an event, as long as no memory is refused.
use Rattle.std.proofs.Common.{◌≡◌, ℕ, zero, suc, ◌<◌, false, None, Some, inl, inr, sym, ap, subst, ◌∙◌, arith}
use Rattle.world_laws.proofs.Common.{Actor, Acts, ActsOn, AreAlike, Cells, Ended, Finished, Finishes, IsEvent, NoMemory, Ready, Rows, Rules, Works, calls, cases_lt, ending_of, finishes, is_ready, starves}
use Rattle.world_laws.{proofs.Likeness.Answers.GoAlike, proofs.Likeness.Calls.step_alike, proofs.Likeness.Calls.call_alike}

-- no memory was refused to it
abbrev pub IsFed : {P : Type 0} → Actor P → Type 0
IsFed a = ending_of a.status ≡ Some NoMemory → ⊥

ready_fed : {P : Type 0} (a : Actor P) → a.status ≡ Ready → IsFed a
ready_fed a ready e = absurd (let z = sym e ∙ ap ending_of ready in cc)

-- one after the other
go_then : {P : Type 0} (r s r1 s1 r2 s2 : Rows) (a b a' b' : Actor P) → GoAlike r s r1 s1 a b → GoAlike r1 s1 r2 s2 a' b' → GoAlike r s r2 s2 a' b'
go_then r s r1 s1 r2 s2 a b a' b' x y = record { alike = y.alike; ended = λ e. y.ended (x.ended e) }

module _ {P : Type 0} (rules : Rules P) (clock : ℕ) where
  -- ## One act

  finished_alike : (r s r' s' : Rows) (a b a' b' : Actor P) → AreAlike a b → Finishes rules r a r' a' → Finishes rules s b s' b' → GoAlike r s r' s' a' b'
  finished_alike r s r' s' a b a' b' k f g = record {
    alike = subst (λ (x : Actor P). AreAlike x b') (sym f.actor) (subst (AreAlike _) (sym g.actor) (record { thread = k.thread; retries = k.retries; tally = k.tally; engine = k.engine; status = λ i. Ended Finished }));
    ended = λ e. ap (λ (x : Rows). x.ended) f.rows ∙ (e ∙ sym (ap (λ (x : Rows). x.ended) g.rows));
  }

  acts_alike : (r s r' s' : Rows) (a b a' b' : Actor P) → AreAlike a b → Acts rules clock r a r' a' → Acts rules clock s b s' b' → IsFed a' → IsFed b' → GoAlike r s r' s' a' b'
  acts_alike r s r' s' a b a' b' k (calls f) (calls g) fed fed' = call_alike rules clock r s r' s' a b a' b' k f g
  acts_alike r s r' s' a b a' b' k (calls f) (finishes g) fed fed' = absurd (let z : Some f.call ≡ None = sym f.next_is ∙ ((λ i. rules.next_call (k.tally i).player) ∙ g.none) in cc)
  acts_alike r s r' s' a b a' b' k (finishes f) (calls g) fed fed' = absurd (let z : None ≡ Some g.call = sym f.none ∙ ((λ i. rules.next_call (k.tally i).player) ∙ g.next_is) in cc)
  acts_alike r s r' s' a b a' b' k (finishes f) (finishes g) fed fed' = finished_alike r s r' s' a b a' b' k f g
  acts_alike r s r' s' a b a' b' k (starves f) g fed fed' = absurd (fed (ap ending_of f.status))
  acts_alike r s r' s' a b a' b' k f (starves g) fed fed' = absurd (fed' (ap ending_of g.status))

  -- ## Many in a row

  acts_on_alike : (n : ℕ) (r s r' s' : Rows) (a b a' b' : Actor P) → AreAlike a b → ActsOn rules clock n r a r' a' → ActsOn rules clock n s b s' b' → IsFed a' → IsFed b' → GoAlike r s r' s' a' b'
  acts_on_alike zero r s r' s' a b a' b' k f g fed fed' = record {
    alike = subst (λ (x : Actor P). AreAlike x b') (sym f.1) (subst (AreAlike a) (sym g.1) k);
    ended = λ e. ap (λ (x : Rows). x.ended) f.0 ∙ (e ∙ sym (ap (λ (x : Rows). x.ended) g.0));
  }
  acts_on_alike (suc n) r s r' s' a b a' b' k f g fed fed' =
      let before = acts_on_alike n r s f.0 g.0 a b f.1 g.1 k f.2 g.2 (ready_fed f.1 f.3) (ready_fed g.1 g.3) in
      go_then r s f.0 g.0 r' s' f.1 g.1 a' b' before (acts_alike f.0 g.0 r' s' f.1 g.1 a' b' before.alike f.4 g.4 fed fed')

  -- before each act the player was to be asked
  before_last : (n k : ℕ) (r r' : Rows) (a a' : Actor P) → n < k → ActsOn rules clock k r a r' a' → (rows : Rows) × (last : Actor P) × ActsOn rules clock n r a rows last × (last.status ≡ Ready)
  before_last n zero r r' a a' l f = absurd (omega arith)
  before_last n (suc k) r r' a a' l f = elim (cases_lt n k) [
    | inl less ↦ before_last n k r f.0 a f.1 less f.2
    | inr more ↦ (let same : k ≡ n = omega arith in (f.0, f.1, subst (λ (m : ℕ). ActsOn rules clock m r a f.0 f.1) same f.2, f.3))
  ]

  -- both have made as many acts where both are done
  works_alike : (n k : ℕ) (r s r' s' : Rows) (a b a' b' : Actor P) → AreAlike a b → ActsOn rules clock n r a r' a' → ActsOn rules clock k s b s' b'
      → is_ready a'.status ≡ false → is_ready b'.status ≡ false → IsFed a' → IsFed b' → GoAlike r s r' s' a' b'
  works_alike n k r s r' s' a b a' b' h f g done done' fed fed' = elim (cases_lt n k) [
    | inl less ↦
        (let x = before_last n k s s' b b' less g in
        let y = acts_on_alike n r s r' x.0 a b a' x.1 h f x.2 fed (ready_fed x.1 x.3) in
        absurd (let z = sym done ∙ ap is_ready (y.alike.status ∙ x.3) in cc))
    | inr more ↦
        elim (cases_lt k n) [
          | inl less ↦
              (let x = before_last k n r r' a a' less f in
              let y = acts_on_alike k r s x.0 s' a b x.1 b' h x.2 g (ready_fed x.1 x.3) fed' in
              absurd (let z = sym done' ∙ ap is_ready (sym y.alike.status ∙ x.3) in cc))
          | inr less ↦ (let same : k ≡ n = omega arith in acts_on_alike n r s r' s' a b a' b' h f (subst (λ (m : ℕ). ActsOn rules clock m s b s' b') same g) fed fed')
        ]
  ]

  pub work_alike : (r s r' s' : Rows) (a b a' b' : Actor P) → AreAlike a b → Works rules clock r a r' a' → Works rules clock s b s' b'
      → is_ready a'.status ≡ false → is_ready b'.status ≡ false → IsFed a' → IsFed b' → GoAlike r s r' s' a' b'
  work_alike r s r' s' a b a' b' h f g done done' fed fed' = works_alike f.0 g.0 r s r' s' a b a' b' h f.1 g.1 done done' fed fed'

-- ## An event

pub event_alike : {P : Type 0} (rules : Rules P) (cells cells' : Cells) (r s r' s' : Rows) (a b a' b' : Actor P) → AreAlike a b → IsEvent rules cells r a cells' r' a' → IsEvent rules cells s b cells' s' b'
    → is_ready a'.status ≡ false → is_ready b'.status ≡ false → IsFed a' → IsFed b' → GoAlike r s r' s' a' b'
event_alike rules cells cells' r s r' s' a b a' b' k e f done done' fed fed' =
    let x = step_alike rules cells r s e.rows f.rows a b e.stepped f.stepped k e.takes f.takes in
    go_then r s e.rows f.rows r' s' e.stepped f.stepped a' b' x (work_alike rules cells'.clock e.rows f.rows r' s' e.stepped f.stepped a' b' x.alike e.works f.works done done' fed fed')
