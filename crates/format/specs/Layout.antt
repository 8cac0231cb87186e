-- The sizes and offsets of the formats, each said once. An offset is the number of a byte in its block, or in its request, from 0.
-- Assumes nothing.
use Rattle.std.specs.Prelude.{ℕ, ◌*◌}

-- ---- every block

-- "Blocks of 512 bytes"; "Bytes 504 to 511 are the check", of which "The block stores a, then b."
abbrev pub block_bytes : ℕ
block_bytes = 512

abbrev pub check_at : ℕ
check_at = 504

abbrev pub check_b_at : ℕ
check_b_at = 508

-- "kind (1 rule, 3 permission)"; "Table: 1 to 128 blocks, kind 2"
abbrev pub rule_kind : ℕ
rule_kind = 1

abbrev pub table_kind : ℕ
table_kind = 2

abbrev pub permission_kind : ℕ
permission_kind = 3

-- "1 to 64 blocks: 0 to 32 rule blocks, then permission blocks"; a table has "1 to 128 blocks"
abbrev pub policy_blocks : ℕ
policy_blocks = 64

abbrev pub most_rules : ℕ
most_rules = 32

abbrev pub table_blocks : ℕ
table_blocks = 128

-- "roles 1 to 32"
abbrev pub highest_role : ℕ
highest_role = 32

-- ---- the rule block

-- "8: depth 0 to 4", "9: exclusions, 1 to 8", "10, 11: 1 if a first, a last step is set", "48-51, 52-55: first and last step"
abbrev pub depth_at : ℕ
depth_at = 8

abbrev pub exclusions_at : ℕ
exclusions_at = 9

abbrev pub first_flag_at : ℕ
first_flag_at = 10

abbrev pub last_flag_at : ℕ
last_flag_at = 11

-- the bytes between the flags and the levels are not named
abbrev pub rule_spare_at : ℕ
rule_spare_at = 12

abbrev pub rule_spare_bytes : ℕ
rule_spare_bytes = 4

abbrev pub first_step_at : ℕ
first_step_at = 48

abbrev pub last_step_at : ℕ
last_step_at = 52

-- "16-47: four levels of 8: type (2), mark (1), zero (1), value (2), zero (2)": where the first level has them
abbrev pub most_levels : ℕ
most_levels = 4

abbrev pub level_bytes : ℕ
level_bytes = 8

abbrev pub type_at : ℕ
type_at = 16

abbrev pub mark_at : ℕ
mark_at = 18

abbrev pub level_pad_at : ℕ
level_pad_at = 19

abbrev pub value_at : ℕ
value_at = 20

abbrev pub level_tail_at : ℕ
level_tail_at = 22

-- "56-343: eight exclusions of 36: kind (1), m (1), n (1), zero (1), eight members of 4": where the first exclusion has them
abbrev pub most_exclusions : ℕ
most_exclusions = 8

abbrev pub exclusion_bytes : ℕ
exclusion_bytes = 36

abbrev pub kind_at : ℕ
kind_at = 56

abbrev pub m_at : ℕ
m_at = 57

abbrev pub n_at : ℕ
n_at = 58

abbrev pub exclusion_pad_at : ℕ
exclusion_pad_at = 59

abbrev pub members_at : ℕ
members_at = 60

abbrev pub most_members : ℕ
most_members = 8

abbrev pub member_bytes : ℕ
member_bytes = 4

-- the bytes between the exclusions and the check are not named
abbrev pub rule_tail_at : ℕ
rule_tail_at = 344

abbrev pub rule_tail_bytes : ℕ
rule_tail_bytes = 160

-- ---- the permission block and the table block

-- "8-9 number of entries", "8-9 records here"; bytes 10 to 15 are named in neither
abbrev pub count_at : ℕ
count_at = 8

abbrev pub spare_at : ℕ
spare_at = 10

abbrev pub spare_bytes : ℕ
spare_bytes = 6

-- "number of entries, 0 to 61; from byte 16 entries of four 2-byte fields: role .., operation, target .., zero": where the first entry has them.
-- The entries have all 488 bytes up to the check.
abbrev pub most_entries : ℕ
most_entries = 61

abbrev pub entries_bytes : ℕ
entries_bytes = 488

abbrev pub entry_bytes : ℕ
entry_bytes = 8

abbrev pub entries_at : ℕ
entries_at = 16

abbrev pub entry_operation_at : ℕ
entry_operation_at = 18

abbrev pub entry_target_at : ℕ
entry_target_at = 20

abbrev pub entry_pad_at : ℕ
entry_pad_at = 22

-- "16-23 the stamp, a then b"
abbrev pub stamp_at : ℕ
stamp_at = 16

abbrev pub stamp_b_at : ℕ
stamp_b_at = 20

-- "15 records from byte 24"
abbrev pub records_at : ℕ
records_at = 24

abbrev pub block_records : ℕ
block_records = 15

-- "A table of B blocks holds at most 15 times B records."
abbrev pub capacity : ℕ → ℕ
capacity b = block_records * b

-- ---- the request and the record

-- "A request is 28 bytes: user (4, from 1), active roles (4, ..), operation (2), target (2), four context levels of type (2), value (2)."
abbrev pub request_bytes : ℕ
request_bytes = 28

abbrev pub roles_at : ℕ
roles_at = 4

abbrev pub operation_at : ℕ
operation_at = 8

abbrev pub target_at : ℕ
target_at = 10

abbrev pub context_at : ℕ
context_at = 12

abbrev pub context_bytes : ℕ
context_bytes = 16

abbrev pub context_level_bytes : ℕ
context_level_bytes = 4

-- "A record is the request and 4 bytes of marks"
abbrev pub record_bytes : ℕ
record_bytes = 32
