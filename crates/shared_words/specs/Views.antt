-- What changes in a view at each kind of step, as it is split, and as two are joined.
use Rattle.std.specs.Prelude.{ℕ, ◌+◌, ◌-◌, ◌/◌, max, ltb, Bool, true, false, cond, List, [], ◌∷◌, ◌++◌, length, count_by, sum_by, ◌==◌}
use Rattle.itm_types.specs.declared.step.Step.{Step}
use Rattle.shared_words.specs.Commits.{stored, after}
use Rattle.shared_words.specs.declared.view.View.{View}

-- a view of words that nobody has written yet, and the only one
abbrev pub opening : List ℕ → View
opening m = record { base = m; seen = []; shorter = []; mine = []; high = 0; clock = 0; fresh = []; met = []; holds = false; done = []; steps = []; looks = 0; share = 128 }

-- a view that gave all it had to another
abbrev pub spent : View
spent = record { base = []; seen = []; shorter = []; mine = []; high = 0; clock = 0; fresh = []; met = []; holds = false; done = []; steps = []; looks = 0; share = 0 }

-- ## What each step leaves; each is noted, with what it found

-- the clock was loaded, n was found, and h are the commits so far
abbrev pub looked : View → Step → List (List (ℕ × ℕ)) → ℕ → View
looked v st h n = record v { seen = h; high = n; clock = n; fresh = []; steps = v.steps ++ (st, n) ∷ []; looks = v.looks + 1 }

-- the clock was taken at s
abbrev pub took : View → Step → List (List (ℕ × ℕ)) → ℕ → View
took v st h s = record v { seen = h; high = s; clock = s; fresh = []; holds = true; done = []; steps = v.steps ++ (st, s) ∷ []; looks = v.looks + 1 }

-- a word was loaded by one that does not hold the clock
abbrev pub read : View → Step → ℕ → ℕ → View
read v st k n = record v { fresh = v.fresh ++ (k, n) ∷ []; met = v.met ++ (k, n, length v.seen) ∷ []; steps = v.steps ++ (st, n) ∷ [] }

-- a word was loaded by the one that does
abbrev pub noted : View → Step → ℕ → View
noted v st n = record v { steps = v.steps ++ (st, n) ∷ [] }

-- a word was stored
abbrev pub wrote : View → Step → ℕ → ℕ → View
wrote v st k n = record v { done = v.done ++ (k, n) ∷ []; steps = v.steps ++ (st, 0) ∷ [] }

-- the clock was freed with n
abbrev pub freed : View → Step → ℕ → View
freed v st n = record v { seen = v.seen ++ v.done ∷ []; mine = v.mine ++ v.clock / 2 ∷ []; high = n; clock = n; fresh = []; holds = false; done = []; steps = v.steps ++ (st, 0) ∷ [] }

-- ## What else is said of a view

-- the words as the holder sees them
abbrev pub held_words : View → List ℕ
held_words v = stored (after v.base v.seen) v.done

-- the cells as the holder sees them
abbrev pub held_cells : View → List ℕ
held_cells v = (v.clock + 1) ∷ held_words v

-- what stays where a view is split
abbrev pub cut_left : View → View
cut_left v = record v { share = v.share - 1 }

-- and the new view: it has seen what the other has, holds nothing, and has one share
abbrev pub cut_right : View → View
cut_right v = record v { mine = []; fresh = []; met = []; holds = false; done = []; shorter = []; steps = []; looks = 0; share = 1 }

abbrev pub longer : {A : Type 0} → Bool → A → A → A
longer true a b = b
longer false a b = a

-- two views joined; `shorter` is the history of the one that had seen less
abbrev pub both : View → View → View
both v w = record v {
  seen = longer (ltb (length v.seen) (length w.seen)) v.seen w.seen;
  shorter = longer (ltb (length v.seen) (length w.seen)) w.seen v.seen;
  mine = v.mine ++ w.mine;
  high = max v.high w.high;
  met = v.met ++ w.met;
  share = v.share + w.share;
}

-- how many hold the clock
abbrev pub holders : List View → ℕ
holders vs = sum_by (λ (v : View). cond v.holds 1 0) vs

-- how often a position stands among one's own
abbrev pub times : ℕ → List ℕ → ℕ
times p ps = count_by (λ (q : ℕ). q == p) ps

-- how often it stands among those of all views
abbrev pub placed : ℕ → List View → ℕ
placed p vs = sum_by (λ (v : View). times p v.mine) vs

abbrev pub shares : List View → ℕ
shares vs = sum_by (λ (v : View). v.share) vs
