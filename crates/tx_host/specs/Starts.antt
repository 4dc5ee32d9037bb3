-- What is known of workers that are ready, and of those that were started.
use Rattle.std.specs.Prelude.{◌≡◌, ℕ, ◌+◌, ◌≤◌, true, List, length, Vec, vec_len}
use Rattle.std.specs.declared.alloc.Global.{Global}
use Rattle.std.specs.declared.thread.PromisedHandle.{PromisedHandle}
use Rattle.shared_words.specs.declared.view.View.{View}
use Rattle.shared_words.specs.InGlobal.{Words}
use Rattle.shared_words.specs.Views.{opening as unwritten}
use Rattle.script_program.specs.Listing.{Listing, threads_of}
use Rattle.worker_rules.specs.Worked.{Worked}
use Rattle.tx_host.specs.declared.start.Ready.{Ready}
use Rattle.tx_host.specs.declared.start.Started.{Started}
use Rattle.tx_host.specs.declared.start.WorksOn.{WorksOn}
use Rattle.report_rules.specs.Fresh.{MayBegin}
use Rattle.report_rules.specs.Numbers.{Numbered}

-- nothing was done with it, but that it may have given parts away
abbrev pub IsUnused : View → Type 0
IsUnused v = v ≡ record (unwritten v.base) { share = v.share }

-- the promise is of the worker with this number
pub record IsFor {G : Type 0} (words : Words) (base : List ℕ) (p : Listing) (number : ℕ) (w : WorksOn G) : Type 0 where
  pub words_are : w.words.now ≡ words
  pub number_is : w.number ≡ number
  pub retries_are : w.retries ≡ p.limits.retries
  pub begins : MayBegin words p base number w.start.value w.player.value

abbrev pub Handle : Type 0 → Type 0
Handle G = PromisedHandle Worked (WorksOn G)

-- the handles are those of the workers from this number on
abbrev pub Promised : {G : Type 0} → Words → List ℕ → Listing → ℕ → List (Handle G) → Type 0
Promised words base p n hs = Numbered (λ k h. IsFor words base p k h.promise) n hs

-- what the worker with this number is to be given
pub record IsReady (words : Words) (base : List ℕ) (p : Listing) (number : ℕ) (r : Ready) : Type 0 where
  pub number_is : r.number ≡ number
  pub begins : MayBegin words p base number r.thread r.player

abbrev pub AllReady : Words → List ℕ → Listing → ℕ → List Ready → Type 0
AllReady words base p n rs = Numbered (IsReady words base p) n rs

-- there is one for each thread of the program, in order. The first pass gave a part to each, and else is as it was
pub record Prepares (words : Words) (start : View) (p : Listing) (now : View) (all : Vec Ready Global) : Type 0 where
  pub pass : now ≡ record start { share = now.share }
  pub ready : AllReady words start.base p 0 all.items
  pub count : vec_len all ≡ length (threads_of p)
  pub share : now.share + length (threads_of p) ≡ start.share

-- the workers were started in order
pub record Starts {G : Type 0} (words : Words) (base : List ℕ) (p : Listing) (threads : ℕ) (s : Started G) : Type 0 where
  pub handles : Promised words base p 0 s.handles.items
  pub few : vec_len s.handles ≤ threads
  pub whole : s.whole ≡ true → vec_len s.handles ≡ threads
