-- Worked programs with the texts of their histories, by computation.
use Rattle.std.proofs.Common.{◌≡◌, ◌++◌, refl, arith, codes}
use Rattle.run_commands.proofs.Common.{GaveUp, arena_line, attempt_lines, beyond, body_text, bytes_of, call_line, codes_of, counter, decimal_digit, empty_block, encode_with, first_lines, head_line, history_text, laid_in, last_line, line, one_commit, page, props_end, reply_text, solo_of, try_text}
use Rattle.script_vm.specs.Registers.{datum}

counter_page : history_text (page counter) ≡
    line (codes "itm-history 1")
    ++ line (codes "memory 0000000000000000")
    ++ line (codes "attempt 0 1 0 committed -")
    ++ line (codes "arena -")
    ++ line (codes "call _ITM_RU8 0 = 0000000000000000")
    ++ line (codes "call _ITM_WU8 0 0100000000000000 = ok")
    ++ line (codes "call _ITM_commitTransaction = ok")
    ++ line (codes "end")
    ++ line (codes "final 2 0100000000000000")
unfolding page solo_of bytes_of codes_of datum history_text first_lines attempt_lines head_line try_text props_end arena_line call_line body_text reply_text last_line encode_with
counter_page = rw (decimal_digit 0 (omega arith), decimal_digit 1 (omega arith), decimal_digit 2 (omega arith)) refl

-- the second version, where inner blocks may run again, also where none does
counter_page_again : history_text (page (record counter { limits = record counter.limits { restarts = 5 } })) ≡
    line (codes "itm-history 2")
    ++ line (codes "memory 0000000000000000")
    ++ line (codes "attempt 0 1 0 committed -")
    ++ line (codes "arena -")
    ++ line (codes "call _ITM_RU8 0 = 0000000000000000")
    ++ line (codes "call _ITM_WU8 0 0100000000000000 = ok")
    ++ line (codes "call _ITM_commitTransaction = ok")
    ++ line (codes "end")
    ++ line (codes "final 2 0100000000000000")
unfolding page solo_of bytes_of codes_of datum history_text first_lines attempt_lines head_line try_text props_end arena_line call_line body_text reply_text last_line encode_with
counter_page_again = rw (decimal_digit 0 (omega arith), decimal_digit 1 (omega arith), decimal_digit 2 (omega arith)) refl

empty_block_page : history_text (page empty_block) ≡
    line (codes "itm-history 1")
    ++ line (codes "memory 0000000000000000")
    ++ line (codes "attempt 0 1 0 readonly -")
    ++ line (codes "arena -")
    ++ line (codes "call _ITM_commitTransaction = ok")
    ++ line (codes "end")
    ++ line (codes "final 0 0000000000000000")
unfolding page solo_of bytes_of codes_of datum history_text first_lines attempt_lines head_line try_text props_end arena_line call_line body_text reply_text last_line encode_with
empty_block_page = rw (decimal_digit 0 (omega arith), decimal_digit 1 (omega arith)) refl

beyond_page : history_text (page beyond) ≡
    line (codes "itm-history 1")
    ++ line (codes "memory 0000000000000000")
    ++ line (codes "attempt 0 1 0 committed -")
    ++ line (codes "arena -")
    ++ line (codes "call _ITM_RU8 8 = refused 2")
    ++ line (codes "call _ITM_WU8 0 0500000000000000 = ok")
    ++ line (codes "call _ITM_commitTransaction = ok")
    ++ line (codes "end")
    ++ line (codes "final 2 0500000000000000")
unfolding page solo_of bytes_of codes_of datum history_text first_lines attempt_lines head_line try_text props_end arena_line call_line body_text reply_text last_line encode_with
beyond_page = rw (decimal_digit 0 (omega arith), decimal_digit 1 (omega arith), decimal_digit 2 (omega arith), decimal_digit 8 (omega arith)) refl

laid_in_page : history_text (page laid_in) ≡
    line (codes "itm-history 1")
    ++ line (codes "memory 000000000000a1b20000000000000000")
    ++ line (codes "attempt 0 1 0 committed -")
    ++ line (codes "arena -")
    ++ line (codes "call _ITM_RU8 4 = 0000a1b200000000")
    ++ line (codes "call _ITM_WU8 8 0000a1b200000000 = ok")
    ++ line (codes "call _ITM_commitTransaction = ok")
    ++ line (codes "end")
    ++ line (codes "final 2 000000000000a1b20000a1b200000000")
unfolding page solo_of bytes_of codes_of datum history_text first_lines attempt_lines head_line try_text props_end arena_line call_line body_text reply_text last_line encode_with
laid_in_page = rw (decimal_digit 0 (omega arith), decimal_digit 1 (omega arith), decimal_digit 2 (omega arith), decimal_digit 4 (omega arith), decimal_digit 8 (omega arith)) refl

one_commit_page : history_text (page one_commit) ≡
    line (codes "itm-history 1")
    ++ line (codes "memory 0000000000000000")
    ++ line (codes "attempt 0 1 0 committed -")
    ++ line (codes "arena -")
    ++ line (codes "call _ITM_WU8 0 0100000000000000 = ok")
    ++ line (codes "call _ITM_commitTransaction = ok")
    ++ line (codes "end")
    ++ line (codes "attempt 0 1 1 readonly -")
    ++ line (codes "arena -")
    ++ line (codes "call _ITM_RU8 0 = 0100000000000000")
    ++ line (codes "call _ITM_commitTransaction = ok")
    ++ line (codes "end")
    ++ line (codes "attempt 0 1 1 full -")
    ++ line (codes "arena -")
    ++ line (codes "call _ITM_WU8 0 0100000000000000 = ok")
    ++ line (codes "end")
    ++ line (codes "final 2 0100000000000000")
unfolding page solo_of bytes_of codes_of datum history_text first_lines attempt_lines head_line try_text props_end arena_line call_line body_text reply_text last_line encode_with
one_commit_page = rw (decimal_digit 0 (omega arith), decimal_digit 1 (omega arith), decimal_digit 2 (omega arith)) refl

one_commit_ending : (solo_of one_commit).ending ≡ GaveUp
unfolding solo_of bytes_of codes_of datum
one_commit_ending = refl
