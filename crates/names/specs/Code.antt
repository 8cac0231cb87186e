-- What the values of the code stand for.
-- Assumes nothing.
use Rattle.std.specs.Prelude.{ℕ, List, Option, Some, None}
use Rattle.std.proofs.Math.Option as math
use Rattle.std.specs.Borrow.{Bor}
use Rattle.xml.specs.Names.{name_in}
use Rattle.names.specs.declared.kind.NameKind.{NameKind}
use Rattle.names.specs.declared.kind.NameKind.TheVariants.{ContextType, ContextValue, Role, Operation, Target}

-- "kind (1 context type, 2 context value, 3 role, 4 operation, 5 target)"
abbrev pub name_code : NameKind → ℕ
name_code ContextType = 1
name_code ContextValue = 2
name_code Role = 3
name_code Operation = 4
name_code Target = 5

-- what is said of what was found
abbrev pub said_of : {A B : Type 0} → (A → B) → Option A → math.Option B
said_of v None = math.none
said_of v (Some x) = math.some (v x)

-- the number, and the name, of the entry that was found
abbrev pub entry_number : List ℕ → Option ℕ → math.Option ℕ
entry_number l o = said_of (λ i. (name_in l i).number) o

abbrev pub entry_name : List ℕ → Option ℕ → math.Option (List ℕ)
entry_name l o = said_of (λ i. (name_in l i).bytes) o

-- the number that was found, and the name
abbrev pub number_found : Option ℕ → math.Option ℕ
number_found o = said_of (λ n. n) o

abbrev pub name_found : Option (Bor (List ℕ)) → math.Option (List ℕ)
name_found o = said_of (λ w. w.now) o
