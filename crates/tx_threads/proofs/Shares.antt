-- A pass that gives shares away.
use Rattle.std.proofs.Common.{◌≡◌, ◌∙◌, ℕ, ◌+◌, ◌-◌, ◌<◌, ap, arith, refl}
use Rattle.shared_words.specs.{InGlobal.Words, Passes.Owns, Passes.view_of, Views.cut_left, Views.cut_right, declared.pass.Pass.Pass, declared.view.View.View}
use Rattle.tx_threads.specs.Seats.{HasGivenShares, IsNew}

pub gives_none : (v : View) → HasGivenShares 0 v v
gives_none v = record { base = refl; mine = refl; holds = refl; share = omega arith }

pub gives_one : (n : ℕ) (old v w : View) → HasGivenShares n old v → 0 < v.share → w ≡ cut_left v → HasGivenShares (n + 1) old w
gives_one n old v w g some is =
    let one : w.share ≡ v.share - 1 = ap (λ (x : View). x.share) is in
    record {
      base = ap (λ (x : View). x.base) is ∙ g.base;
      mine = ap (λ (x : View). x.mine) is ∙ g.mine;
      holds = ap (λ (x : View). x.holds) is ∙ g.holds;
      share = omega (arith, some, one, g.share);
    }

-- what is cut off may have a client
pub is_new : (words : Words) (v : View) (pass : Pass) → Owns words pass → view_of pass ≡ cut_right v → IsNew words pass
is_new words v pass own is = record { own = own; idle = ap (λ (x : View). x.holds) is; mine = ap (λ (x : View). x.mine) is; looks = ap (λ (x : View). x.looks) is }
