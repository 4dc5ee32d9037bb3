use Rattle.norec_world.proofs.{AreWords, length-words_from, ◌/◌, arith, length}
use Rattle.itm_types.proofs.WordLists.{are_words, are_bytes}
use Rattle.norec_world.proofs.memory.Memory.new.Goals as goal

pub invariant_of-result : goal.invariant_of-result
invariant_of-result c = are_words c.args.bytes.items c.requires (are_bytes c.args.bytes.items (λ i l. omega arith))

pub returns-clause-bytes : goal.returns-clause-bytes
returns-clause-bytes c = let a : AreWords c.args.bytes.items = are_words c.args.bytes.items c.requires (are_bytes c.args.bytes.items (λ i l. omega arith)) in a.again

pub returns-clause-words : goal.returns-clause-words
returns-clause-words c = length-words_from (length c.args.bytes.items / 8) c.args.bytes.items

pub returns-clause-fit : goal.returns-clause-fit
returns-clause-fit c = let a : AreWords c.args.bytes.items = are_words c.args.bytes.items c.requires (are_bytes c.args.bytes.items (λ i l. omega arith)) in a.fit
