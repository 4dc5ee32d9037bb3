-- The lanes of a picture, one below the other: each is ten high.
use Rattle.std.specs.Prelude.{ℕ, zero, suc, ◌==◌, Bool, false, if◌then◌else◌, List, [], ◌++◌, codes, decimal, length, slice_get, Option, None, Some}
use Rattle.picture_parts.specs.Texts.{first_texts}

-- ## Where they are

abbrev pub is_thread : ℕ → Option ℕ → Bool
is_thread thread None = false
is_thread thread (Some column) = column == thread

-- the place of the thread's lane
abbrev pub lane_in : List ℕ → ℕ → ℕ → ℕ
lane_in columns thread zero = 0
lane_in columns thread (suc n) = if is_thread thread (slice_get columns n) then n else lane_in columns thread n

-- ## How they are drawn

unfoldable pub lane_text : ℕ → ℕ → ℕ → List ℕ
lane_text events j thread =
    codes "<g transform=\"translate(0 " ++ decimal j ++ codes "0)\"><text x=\"-4.7\" y=\".85\">thread " ++ decimal thread
    ++ codes "</text><path class=\"lane\" d=\"M0 2.9H" ++ decimal events ++ codes "\"/></g>\n"

abbrev pub lane_at : ℕ → ℕ → Option ℕ → List ℕ
lane_at events j None = []
lane_at events j (Some thread) = lane_text events j thread

-- a lane for each of these threads, over so many events
abbrev pub lanes_text : List ℕ → ℕ → List ℕ
lanes_text columns events = first_texts (λ j. lane_at events j (slice_get columns j)) (length columns)
