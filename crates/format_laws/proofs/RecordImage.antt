-- The image of a record is 32 bytes and says the record, and any 32 bytes are the image of the record that they say.
-- Assumes nothing.
use Prim.Native.Nat.{ℕ, ◌*◌, ◌<◌}
use native.Mathlib.Omega.{arith}
use mathlib.Core.Path.{refl, ◌≡◌, ap₂, ◌∙◌}
use mathlib.Core.List.{List, flatten, map}
use lib.Seq.{take_all, length-take-le, take_at}
use lib.ListN.{length, take, length-append, length-map}
use Rattle.words.specs.Bytes.{u32_at, bytes4}
use Rattle.word_laws.proofs.Lists.{front-grows, OfLength, length-flatten}
use Rattle.word_laws.proofs.Bytes.{Byte, bytes4-u32_at, u32_at-below, read4, u32_at-past}
use Rattle.word_laws.proofs.Every.{Every, every_map}
use Rattle.format.specs.Layout.{request_bytes, record_bytes}
use Rattle.format.specs.Table.{Record, record_image}

-- a record that fits its 32 bytes
pub record Whole (r : Record) : Type 0 where
  pub request-length : length r.request ≡ request_bytes
  pub marks-fit : r.marks < 4294967296

pub length-record_image : (r : Record) → Whole r → length (record_image r) ≡ record_bytes
unfolding record_image
length-record_image r h = rw (length-append, h.request-length)

pub record-of-image : (r : Record) → Whole r → ◌≡◌ {A = Record} (record { request = take request_bytes (record_image r); marks = u32_at (record_image r) request_bytes }) r
unfolding record_image
record-of-image r h =
    ap₂ {C = Record} (λ q m. record { request = q; marks = m })
    (take_at r.request (bytes4 r.marks) request_bytes h.request-length)
    (u32_at-past r.request (bytes4 r.marks) request_bytes 0 h.request-length ∙ read4 r.marks h.marks-fit)

-- and 32 bytes are the image of what they say
pub image-of-bytes : (s : List ℕ) → Every Byte s → length s ≡ record_bytes
    → record_image (record { request = take request_bytes s; marks = u32_at s request_bytes }) ≡ s
unfolding record_image
image-of-bytes s bytes e = front-grows s request_bytes 4 refl (bytes4-u32_at s bytes request_bytes (omega arith)) ∙ take_all record_bytes s (omega arith)

pub whole-of-bytes : (s : List ℕ) → Every Byte s → length s ≡ record_bytes → Whole (record { request = take request_bytes s; marks = u32_at s request_bytes })
whole-of-bytes s bytes e =
    record { request-length = length-take-le request_bytes s (omega arith); marks-fit = u32_at-below s bytes request_bytes (omega arith) }

-- the images of some records, joined
abbrev pub images : List Record → List ℕ
images rs = flatten (map record_image rs)

pub images-of-length : {rs : List Record} → Every Whole rs → Every (OfLength record_bytes) (map record_image rs)
images-of-length ws = every_map record_image length-record_image ws

pub length-images : (rs : List Record) → Every Whole rs → length (images rs) ≡ record_bytes * length rs
length-images rs ws = rw (length-flatten record_bytes (images-of-length ws), length-map)
