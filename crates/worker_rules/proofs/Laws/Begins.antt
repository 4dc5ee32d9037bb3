-- A worker before its first call.
use Rattle.std.proofs.Common.{◌≡◌, ℕ, ◌^◌, ◌<◌, ◌≤◌, Bool, false, true≢false, List, [], length, Vec, Global, refl, sym, ap, subst, ◌∙◌, arith, append-nil}
use Rattle.worker_rules.proofs.Common.{AreFew, AreOver, Attempt, HasRun, IsNested, IsRunning, IsWorking, Outside, Owns, Rules, Standing, Stands, Words, Worker, account_of, bounds_of, commits_known, course_of, first_account, in_transaction, none_inside, outrun_none, view_of, went_self, whole}
use Rattle.itm_types.specs.declared.limits.TheConstants.{MAX_RETRIES}
use Rattle.run_rules.proofs.Players.{nested_outside}

module _ {P : Type 0} (rules : Rules P) (words : Words) (thread : Standing) (player : P) (number retries : ℕ) (own : Owns words thread.pass) (stands : Stands (view_of thread.pass) thread.engine) (outside : in_transaction thread.engine ≡ false) (depth : rules.depth player ≡ 0) (limit : thread.engine.restarts < 2 ^ 32) (few : retries ≤ MAX_RETRIES) where
  pub begins_bound : whole rules (in_transaction thread.engine) player ≤ rules.calls_left player
  begins_bound = subst (λ (i : Bool). whole rules i player ≤ rules.calls_left player) (sym outside) (let l : rules.calls_left player ≤ rules.calls_left player = omega arith in l)

  no_run : HasRun rules (course_of thread player number retries) (view_of thread.pass) []
  no_run = record {
    went = went_self (view_of thread.pass);
    run = tt;
    left = tt;
    since = tt;
    known = stands.over.known;
    own = tt;
    few = tt;
    outrun = outrun_none (view_of thread.pass).high;
  }

  first_running : IsRunning rules (course_of thread player number retries) (view_of thread.pass) thread.engine (first_account player)
  first_running = record {
    has_run = no_run;
    mine = sym (append-nil (view_of thread.pass).mine);
    tried = omega arith;
    tries = omega arith;
    nested = subst (λ (i : Bool). IsNested rules i player) (sym outside) (nested_outside rules player depth);
    depth = depth ∙ sym (ap length (none_inside thread.engine.blocks outside));
    deepest = refl;
    limit = refl;
    inside = λ i. absurd (true≢false (sym i ∙ outside));
    outside = λ o. record {
      between = record { player = player; arena = thread.engine.arena; again = false; tries = 0 };
      stage_is = refl;
      now_is = refl;
      before = record { calls = 0; leads = (refl, refl); again = refl; tries = omega arith };
      known = (let l : commits_known (view_of thread.pass) ≤ commits_known (view_of thread.pass) = omega arith in l);
      looked = omega arith;
    };
  }

  module _ (ended : Vec Attempt Global) (empty : ended.items ≡ []) where
    first_is : first_account player ≡ account_of (record { run = record { thread = number; retries = retries; player = player; nth = 1; again = false; current = Outside }; thread = thread; ended = ended; calls = 0 })
    first_is = ap (λ (xs : List Attempt). record (first_account player) { ended = xs }) (sym empty)

    pub begins_works : (w : Worker P) → w ≡ record { run = record { thread = number; retries = retries; player = player; nth = 1; again = false; current = Outside }; thread = thread; ended = ended; calls = 0 }
        → IsWorking rules words (course_of thread player number retries) (bounds_of thread.engine) w × (account_of w ≡ first_account player)
    begins_works w is = subst (λ (x : Worker P). IsWorking rules words (course_of thread player number retries) (bounds_of thread.engine) x × (account_of x ≡ first_account player)) (sym is) (
      record {
        same = record {
          own = own;
          stands = stands;
          number = refl;
          retries = refl;
          few = few;
          limit = limit;
          over = subst AreOver (sym empty) tt;
          below = subst (AreFew thread.engine.max_commits) (sym empty) tt;
          bounds = refl;
        };
        running = subst (IsRunning rules (course_of thread player number retries) (view_of thread.pass) thread.engine) first_is first_running;
        roomy = tt;
        blocks = tt;
        actions = tt;
        promises = tt;
      },
      sym first_is,
    )
