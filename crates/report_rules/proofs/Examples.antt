-- Worked cases: attempts by thread, the lists of two workers, how threads with no call end, after which answers there is no further try, and which version tells of a run.
use Rattle.std.proofs.Common.{◌≡◌, ℕ, false, List, [], ◌∷◌, Ok, refl, inl, arith}
use Rattle.report_rules.proofs.Common.{Attempt, Busy, Done, EndsBy, Finished, Full, GaveUp, IsFresh, IsLast, Listing, Numbered, One, Owns, ReadOnly, Standing, Three, Two, WasRun, Words, all_let, attempts_in, by_number, codes_of, depth_from, depth_of, ends_in, first_account, first_of, opening, version_of, view_of}
use Rattle.call_rules.specs.Ties.{Stands}
use Rattle.report_rules.proofs.Passes.WorkerViews.{joined_self}
use Rattle.tx_attempts.specs.declared.attempt.Outcome.TheVariants.{Conflict}

-- the second try of a thread's block
abbrev pub row : ℕ → Attempt
row thread = record { thread = thread; nth = 2; began = 0; at = 0; props = record { no_abort = false; no_irrevocable = false; goes_irrevocable = false }; arena = []; calls = record { list = []; room = 0 }; restarts = []; ran = []; outcome = ReadOnly }

-- and the first one
abbrev pub lost : ℕ → Attempt
lost thread = record (row thread) { nth = 1; outcome = Conflict }

stand_in_order : by_number 0 2 (lost 0 ∷ row 0 ∷ row 1 ∷ []) ≡ lost 0 ∷ row 0 ∷ row 1 ∷ []
stand_in_order = refl

-- of a list that mixes them another one comes
brought_in_order : by_number 0 2 (lost 0 ∷ row 1 ∷ row 0 ∷ []) ≡ lost 0 ∷ row 0 ∷ row 1 ∷ []
brought_in_order = refl

-- and one without the attempts of a third thread
others_left_out : by_number 0 2 (row 0 ∷ row 2 ∷ row 1 ∷ []) ≡ row 0 ∷ row 1 ∷ []
others_left_out = refl

-- ## Two workers

abbrev pub both : List Done
both = record { attempts = lost 0 ∷ row 0 ∷ []; end = Finished } ∷ record { attempts = lost 1 ∷ []; end = GaveUp } ∷ []

all_attempts : attempts_in both ≡ lost 0 ∷ row 0 ∷ lost 1 ∷ []
all_attempts = refl

all_ends : ends_in both ≡ Finished ∷ GaveUp ∷ []
all_ends = refl

-- the members of a list are numbered from where the count begins
three_numbers : Numbered (λ n x. x ≡ n) 4 (4 ∷ 5 ∷ 6 ∷ [])
three_numbers = (refl, (refl, (refl, tt)))

-- ## A program

-- of so many bytes and so many threads with no code, with this depth
abbrev pub program : ℕ → ℕ → ℕ → Listing
program memory threads depth = record {
  memory = record { size = memory; inits = [] };
  arena = 4;
  limits = record { patience = 8; retries = 100; max_commits = 1; depth = depth; restarts = 0 };
  schedule = [];
  parts = record { count = threads; code = [] } ∷ [];
}

-- a thread of it is over at once, whatever the memories
nothing_to_do : (memory : ℕ → List ℕ) → EndsBy 16 memory (first_of (program 8 1 16) []) Finished []
nothing_to_do memory = inl (record { between = first_of (program 8 1 16) []; now_is = refl; none = refl })

-- and its run has no call: who tells of no attempt, and that it finished, tells of it
idle : (words : Words) (start : Standing) → Owns words start.pass → Stands (view_of start.pass) start.engine → IsFresh (program 8 1 16) (view_of start.pass).base 0 start (opening 16 []) → (view_of start.pass).holds ≡ false → WasRun words (program 8 1 16) (view_of start.pass) all_let 0 Finished []
idle words start own stands fresh free = record {
  worked = record { thread = 0; attempts = []; end = Finished; pass = Ok start.pass };
  made = record {
    start = start;
    player = opening 16 [];
    begins = record { own = own; stands = stands; fresh = fresh };
    row = record {
      calls = 0;
      account = first_account (opening 16 []);
      standing = start;
      made = (refl, refl);
      left = first_account (opening 16 []);
      thread = start;
      stops = (refl, refl, refl);
      attempts = refl;
      begun = tt;
      pass = (refl, free);
    };
  };
  end_is = refl;
  attempts_are = refl;
  joined = joined_self (view_of start.pass);
  why = refl;
}

-- ## The last answer

-- where a block may be tried again once, its second try is the last
last_try : IsLast 1 2 (Busy 7)
last_try = omega arith

-- and its first one is not
try_left : IsLast 1 1 (Busy 7) → ⊥
try_left l = omega arith

-- no try is left where no commit more may be, whichever try it is
no_commit_left : IsLast 100 1 (Full 0)
no_commit_left = tt

-- ## Versions

-- the first version tells of the largest run that it may tell of
largest_early : version_of (program 65536 32 16) ≡ One
unfolding codes_of
largest_early = refl

-- the second one, where its inner blocks may run again
may_restart : version_of (record (program 65536 32 16) { limits = record (program 65536 32 16).limits { restarts = 1 } }) ≡ Two
unfolding codes_of
may_restart = refl

-- and the third one of one with a larger memory, with a thread more, or with another depth, each alone
larger_memory : version_of (program 65544 1 16) ≡ Three (depth_from 16)
unfolding codes_of
larger_memory = refl

thread_more : version_of (program 8 33 16) ≡ Three (depth_from 16)
unfolding codes_of
thread_more = refl

less_deep : version_of (program 8 1 15) ≡ Three (depth_from 15)
unfolding codes_of
less_deep = refl

deeper : depth_of (version_of (program 8 1 64)) ≡ 64
unfolding codes_of
deeper = refl
