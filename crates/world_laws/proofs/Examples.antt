-- Worked cases, computed: all that a player does alone.
use Rattle.std.proofs.Common.{◌≡◌, [], ◌∷◌, replicate, refl, true, false}
use Rattle.world_laws.proofs.Common.{Attempt, Begin, Commit, Committed, Finished, Full, GaveUp, Mode, Props, Unfinished, Write, solo}
use Rattle.itm_types.specs.declared.access.WriteHint.TheVariants.{W}
use Rattle.world_rules.proofs.Common.{Done}
use Rattle.world_rules.proofs.Plan.{Plan}
use Rattle.world_rules.proofs.Examples.{begin, cancelled, commit, counter, counter_rules, fresh, next, plain, plan_rules, planned, refused, two, word, write}

counter_alone : solo counter_rules 1 1 0 fresh.player (replicate 8 0) [] ≡ record { attempts = counter ∷ []; memory = 1 ∷ replicate 7 0; commits = 1; held = false; ending = Finished }
counter_alone = refl

-- where no writer may commit
refused_alone : solo counter_rules 1 0 0 fresh.player (replicate 8 0) [] ≡ record { attempts = refused ∷ []; memory = replicate 8 0; commits = 0; held = false; ending = GaveUp }
refused_alone = refl

-- a block that is cancelled, and the next one
cancelled_alone : solo plan_rules 2 1 0 planned (replicate 8 0) (two 0 0) ≡ record { attempts = cancelled ∷ next ∷ []; memory = replicate 8 0; commits = 0; held = false; ending = Finished }
cancelled_alone = refl

-- ## Irrevocable blocks

-- a block that writes, goes irrevocable and commits: where no writer may commit it ends before it goes
abbrev turning : Plan
turning = record { calls = begin ∷ Write W 0 (word 7) ∷ Mode 0 ∷ Commit ∷ []; at = 0; blocks = [] }

abbrev turned : Attempt
turned = record { thread = 0; nth = 1; began = 0; at = 0; props = plain; arena = []; calls = record { list = write 7 ∷ record { call = Mode 0; reply = Done } ∷ commit ∷ []; room = 0 }; restarts = []; ran = []; outcome = Committed }

turned_alone : solo plan_rules 2 1 0 turning (replicate 8 0) [] ≡ record { attempts = turned ∷ []; memory = 7 ∷ replicate 7 0; commits = 1; held = false; ending = Finished }
turned_alone = refl

full_alone : solo plan_rules 2 0 0 turning (replicate 8 0) [] ≡ record { attempts = record turned { calls = record { list = write 7 ∷ []; room = 0 }; outcome = Full } ∷ []; memory = replicate 8 0; commits = 0; held = false; ending = GaveUp }
full_alone = refl

-- a block that begins irrevocable and is left open: what it wrote stays, and where no writer may commit it does not begin
abbrev going : Props
going = record { no_abort = false; no_irrevocable = false; goes_irrevocable = true }

abbrev leaving : Plan
leaving = record { calls = Begin going 0 ∷ Write W 0 (word 7) ∷ []; at = 0; blocks = [] }

abbrev left : Attempt
left = record { thread = 0; nth = 1; began = 0; at = 0; props = going; arena = []; calls = record { list = write 7 ∷ []; room = 0 }; restarts = []; ran = []; outcome = Unfinished }

left_alone : solo plan_rules 2 1 0 leaving (replicate 8 0) [] ≡ record { attempts = left ∷ []; memory = 7 ∷ replicate 7 0; commits = 0; held = true; ending = Finished }
left_alone = refl

shut_out_alone : solo plan_rules 2 0 0 leaving (replicate 8 0) [] ≡ record { attempts = []; memory = replicate 8 0; commits = 0; held = false; ending = GaveUp }
shut_out_alone = refl
