-- What the values of the code stand for.
-- Assumes nothing.
use Rattle.forms.specs.Form.{Kind, space, digit, of_name}
use Rattle.forms.specs.declared.kind.ByteKind.{ByteKind}
use Rattle.forms.specs.declared.kind.ByteKind.TheVariants.{Space, Digit, Name}

abbrev pub kind_of : ByteKind → Kind
kind_of Space = space
kind_of Digit = digit
kind_of Name = of_name
