-- Worked lines of blocks that ran again, and of versions, by computation.
use Rattle.std.proofs.Common.{◌≡◌, ℕ, List, [], ◌∷◌, ◌++◌, refl, arith, lit<, lit≤, codes, decimal, flat_map}
use Rattle.tx_history.proofs.Common.{CallRecord, Depth, One, Three, Two, again_lines, arena_line, attempt_lines, body_text, call_line, call_lines, decimal_digit, decimal_step, depth_of, encode_with, first_lines, head_line, memory_limit, props_end, reply_text, restart_line, thread_limit, try_text, undone_line}
use Rattle.itm_types.specs.declared.call.ActionKind.TheVariants.{Undo}
use Rattle.tx_attempts.proofs.Examples.{again}
use Rattle.tx_history.proofs.WorkedLines.{line}

sixteen : decimal 16 ≡ codes "16"
sixteen = rw (decimal_step 16 (omega arith) (omega arith), decimal_digit 1 (omega arith)) refl

-- an attempt within which a block ran again
told : attempt_lines again
    ≡ line (codes "attempt 0 1 1 readonly -")
    ++ line (codes "arena 0000")
    ++ line (codes "call _ITM_RU8 0 = 0000000000000000")
    ++ line (codes "call _ITM_beginTransaction - = code 5")
    ++ line (codes "restart 0009")
    ++ line (codes "call _ITM_LU1 0 = ok")
    ++ line (codes "call st1 0 09 = ok")
    ++ line (codes "call st1 1 09 = ok")
    ++ line (codes "call _ITM_RU8 8 = 0700000000000000")
    ++ line (codes "call _ITM_RU8 16 = 0000000000000000")
    ++ line (codes "call _ITM_commitTransaction = ok")
    ++ line (codes "call _ITM_commitTransaction = ok")
    ++ line (codes "end")
unfolding attempt_lines head_line try_text props_end arena_line call_line body_text reply_text again_lines restart_line encode_with
told = rw (sixteen, decimal_digit 0 (omega arith), decimal_digit 1 (omega arith), decimal_digit 5 (omega arith), decimal_digit 8 (omega arith)) refl

-- an arena of no bytes, and an action that had run
with_an_action : again_lines (record { kept = 1; arena = []; undone = record { kind = Undo; action = record { fun = 1; arg = 0 } } ∷ [] }) ≡ line (codes "restart -") ++ line (codes "undone 1 0")
unfolding again_lines restart_line undone_line
with_an_action = rw (decimal_digit 0 (omega arith), decimal_digit 1 (omega arith)) refl

-- where no block ran again the lines of the calls are those of each of them
none_told : (calls : List CallRecord) → call_lines 0 calls [] ≡ flat_map call_line calls
none_told calls = refl

-- ## The first lines

seventeen : decimal 17 ≡ codes "17"
seventeen = rw (decimal_step 17 (omega arith) (omega arith), decimal_digit 1 (omega arith)) refl

deep : Depth
deep = record { blocks = 17; some = lit< tt; few = lit≤ tt }

first_version : (memory : List ℕ) → first_lines One memory ≡ codes "itm-history 1\nmemory " ++ encode_with (codes "0123456789abcdef") memory ++ codes "\n"
unfolding first_lines
first_version memory = refl

second_version : first_lines Two (7 ∷ []) ≡ line (codes "itm-history 2") ++ line (codes "memory 07")
unfolding first_lines encode_with
second_version = refl

third_version : first_lines (Three deep) (7 ∷ []) ≡ line (codes "itm-history 3") ++ line (codes "depth 17") ++ line (codes "memory 07")
unfolding first_lines encode_with deep
third_version = rw seventeen refl

-- ## Limits

first_limits : (depth_of One ≡ 16) × (memory_limit One ≡ 65536) × (thread_limit One ≡ 31)
first_limits = (refl, refl, refl)

third_limits : (depth_of (Three deep) ≡ 17) × (memory_limit (Three deep) ≡ 1048576) × (thread_limit (Three deep) ≡ 63)
unfolding deep
third_limits = (refl, refl, refl)
