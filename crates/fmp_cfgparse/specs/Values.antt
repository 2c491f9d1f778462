-- The values of the fields of a static API.
use Rattle.std.specs.Prelude.{ℕ, ℤ, pos, negsuc, List, [], ◌∷◌, slice_get, Option, Some, None, Bool, true, false, ◌&&◌}
use Rattle.std.specs.Prelude.{nat_le, if◌then◌else◌}
use Rattle.std.specs.Int.{w32, int_bit_or, int_wrapping_neg}
use Rattle.fmp_base.specs.declared.names.Name.{Name}
use Rattle.fmp_base.specs.Systems.{no_name}
use Rattle.fmp_base.specs.Words.{constant_value}
use Rattle.fmp_cfgparse.specs.declared.tree.Item.{Item}
use Rattle.fmp_cfgparse.specs.declared.tree.Item.TheVariants as item
use Rattle.fmp_cfgparse.specs.Trees.{FieldTree, value, name}

-- the number of an item on 32 bits; a name has none
abbrev pub item_number : Item → Option ℤ
item_number (item.Number n) = Some n
item_number (item.Minus n) = Some (int_wrapping_neg w32 n)
item_number (item.Constant c) = Some (constant_value c)
item_number (item.Name n) = None

-- two numbers joined by or, where both are known
abbrev pub joined : Option ℤ → Option ℤ → Option ℤ
joined (Some x) (Some y) = Some (int_bit_or w32 x y)
joined (Some x) None = None
joined None y = None

-- a number joined with those of the items, where all are known
abbrev pub joined_items : Option ℤ → List Item → Option ℤ
joined_items x [] = x
joined_items x (a ∷ more) = joined_items (joined x (item_number a)) more

-- the number of a value, where it has no unknown constant
abbrev pub value_number : List Item → Option ℤ
value_number items = joined_items (Some (pos 0)) items

abbrev pub is_known_number : Option ℤ → Bool
is_known_number (Some x) = true
is_known_number None = false

-- the field has no unknown constant
abbrev pub is_known : FieldTree → Bool
is_known (value items) = is_known_number (value_number items)
is_known (name n) = true

abbrev pub all_known : List FieldTree → Bool
all_known [] = true
all_known (f ∷ more) = is_known f && all_known more

abbrev pub or_zero : Option ℤ → ℤ
or_zero (Some x) = x
or_zero None = pos 0

-- the number of a field; 0 if it has none
abbrev pub field_number : Option FieldTree → ℤ
field_number (Some (value items)) = or_zero (value_number items)
field_number (Some (name n)) = pos 0
field_number None = pos 0

abbrev pub field_name : Option FieldTree → Name
field_name (Some (name n)) = n
field_name (Some (value items)) = no_name
field_name None = no_name

-- the number and the name of the field at a place
abbrev pub number_at : List FieldTree → ℕ → ℤ
number_at fields k = field_number (slice_get fields k)

abbrev pub name_at : List FieldTree → ℕ → Name
name_at fields k = field_name (slice_get fields k)

-- the number lies between these two, both included
abbrev pub between : ℕ → ℕ → ℤ → Bool
between low high (pos n) = nat_le low n && nat_le n high
between low high (negsuc n) = false

-- a number that is at most this, else 0
abbrev pub held : ℕ → ℤ → ℕ
held most (pos n) = if nat_le n most then n else 0
held most (negsuc n) = 0
