-- Words in a block of the global allocator, which a clause names most.
use Rattle.std.specs.declared.alloc.Global.{Global}
use Rattle.shared_words.specs.declared.words.Words.{Words as WordsIn}

abbrev pub Words : Type 0
Words = WordsIn Global
