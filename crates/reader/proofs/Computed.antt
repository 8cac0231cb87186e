-- What proofs about the words of the grammar compute with, under one name.
-- Assumes nothing.
use Rattle.words.specs.Lists.{any_of}
use Rattle.forms.specs.Form.{ascii, name_byte, is_of, may_end, hopeless, joined, bytes, is_nothing, either, left}
use Rattle.forms.proofs.Sequence.{begun}
use Rattle.reader.specs.Words.{words, named}

unfoldable pub computed : Unit {0}
unfolding any_of ascii name_byte is_of may_end hopeless joined bytes is_nothing either left begun words named
computed = tt
