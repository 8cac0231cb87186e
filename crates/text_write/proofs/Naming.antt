-- A name that is laid down, or refused as missing.
-- Assumes nothing.
use Prim.Native.Nat.{ℕ}
use native.Mathlib.Omega.{arith}
use mathlib.Core.Path.{◌≡◌, refl}
use mathlib.Core.List.{List}
use mathlib.Core.Option.{Option, none, some}
use Rattle.std.specs.declared.result.Result.TheVariants.{Ok, Err}
use Rattle.format.specs.declared.answer.TextRefusal.TheVariants.{NotListed}
use Rattle.xml.specs.Names.{most_name_bytes}
use Rattle.xml.specs.Write.{or_blank}
use Rattle.text_write.specs.Laid.{Lays, Puts}
use Rattle.text_write.specs.Lost.{no_name}
use Rattle.text_write.proofs.Laying.{puts-ok, told, lays-nothing}

module _ {name : Option (List ℕ)} where
  -- a number without a name: nothing is laid down, and it is refused
  pub name-missing : (o : List ℕ) (a : ℕ) → name ≡ none → Puts most_name_bytes o a (or_blank name) (no_name name) o (record { next = a; named = Err NotListed })
  unfolding or_blank no_name
  name-missing o a e = rw e (record { lays = told (lays-nothing o a) refl (omega arith); named = refl })

  -- a number with a name: it is laid down
  pub name-there : {o o' w : List ℕ} {a a' : ℕ} → name ≡ some w → Lays most_name_bytes o a w o' a'
      → Puts most_name_bytes o a (or_blank name) (no_name name) o' (record { next = a'; named = Ok tt })
  unfolding or_blank no_name
  name-there e x = rw e (puts-ok refl x)
