-- Fields and items of a tape.
use Rattle.std.specs.Prelude.{Bool, true, ◌&&◌, cond, List, [], ◌∷◌, map, ℕ, zero, suc, ◌+◌, ◌*◌, ◌-◌, ◌%◌, length, take, drop, get_or, leb, eqb, Option, Some, None, Result, Ok, Err}
use Rattle.tape.specs.declared.Tag.{Tag}
use Rattle.tape.specs.declared.Tag.TheVariants.{Network, Keys, Asks}
use Rattle.tape.specs.declared.Field.{Field}
use Rattle.tape.specs.declared.BadField.{BadField}
use Rattle.tape.specs.declared.Item.{Item}
use Rattle.tape.specs.declared.Item.TheVariants.{NetworkByte, KeyPair, AskPair}

-- what stands at a place: a field, none at the tape's end, or a bad field
abbrev pub Found : Type 0
Found = Result (Option Field) BadField

abbrev pub bad_field : BadField
bad_field = record {}

-- one-byte tag, two-byte length with its high byte first, body
abbrev pub head_size : ℕ
head_size = 3

abbrev pub size_at : List ℕ → ℕ → ℕ
size_at tape at = 256 * get_or tape (at + 1) 0 + get_or tape (at + 2) 0

-- network bytes, key pairs, ask pairs
unfoldable pub tag_of : ℕ → Result Tag BadField
tag_of n = cond (eqb n 1) (Ok Network) (cond (eqb n 2) (Ok Keys) (cond (eqb n 3) (Ok Asks) (Err bad_field)))

abbrev pub tag_number : Tag → ℕ
tag_number Network = 1
tag_number Keys = 2
tag_number Asks = 3

-- what the items are where a run stands: by the number, of which no field gives any but these three
abbrev pub kind_of : ℕ → Tag
kind_of n = cond (eqb n 1) Network (cond (eqb n 2) Keys Asks)

abbrev pub tag_at : List ℕ → ℕ → Result Tag BadField
tag_at tape at = tag_of (get_or tape at 0)

abbrev pub fits : Tag → ℕ → Bool
fits Network size = true
fits Keys size = eqb (size % 2) 0
fits Asks size = eqb (size % 2) 0

abbrev pub is_whole : List ℕ → ℕ → Bool
is_whole tape at = leb (at + head_size) (length tape) && leb (size_at tape at) (length tape - (at + head_size))

abbrev pub field_at : List ℕ → ℕ → Tag → Field
field_at tape at tag = record { tag = tag; start = at + head_size; size = size_at tape at; next = record { at = at + head_size + size_at tape at } }

-- a head whose tag is known, and the body behind it
abbrev pub tagged : Result Tag BadField → List ℕ → ℕ → Found
tagged (Ok tag) tape at = cond (fits tag (size_at tape at)) (Ok (Some (field_at tape at tag))) (Err bad_field)
tagged (Err e) tape at = Err e

unfoldable pub found_at : List ℕ → ℕ → Found
found_at tape at =
    cond (leb (length tape) at) (Ok None)
    (cond (is_whole tape at) (tagged (tag_at tape at) tape at) (Err bad_field))

-- so many bytes of the tape from a place on
unfoldable pub part_of : List ℕ → ℕ → ℕ → List ℕ
part_of tape start size = take size (drop start tape)

-- the body of the field that stands at a place: that part of the tape; empty where no field stands
abbrev pub body_of : List ℕ → Found → List ℕ
body_of tape (Ok None) = []
body_of tape (Err e) = []
body_of tape (Ok (Some f)) = part_of tape f.start f.size

unfoldable pub body_at : List ℕ → ℕ → List ℕ
body_at tape at = body_of tape (found_at tape at)

-- what stands at a place, and the body there
pub record Scanned : Type 0 where
  pub found : Found
  pub body : List ℕ

-- the fields of a tape from a place on, each looked up where the one before it ends; the end or a bad field is the last
abbrev pub field_then : List ℕ → Found → (ℕ → List Scanned) → List Scanned
field_then tape (Ok None) next = record { found = Ok None; body = [] } ∷ []
field_then tape (Err e) next = record { found = Err e; body = [] } ∷ []
field_then tape (Ok (Some f)) next = record { found = Ok (Some f); body = part_of tape f.start f.size } ∷ next f.next.at

unfoldable pub fields_from : ℕ → List ℕ → ℕ → List Scanned
fields_from zero tape at = []
fields_from (suc n) tape at = field_then tape (found_at tape at) (λ next. fields_from n tape next)

-- every field takes up bytes, so a tape's length bounds the number of its fields
abbrev pub fields_at : List ℕ → ℕ → List Scanned
fields_at tape at = fields_from (suc (length tape)) tape at

unfoldable pub pairs : (ℕ → ℕ → Item) → List ℕ → List Item
pairs f [] = []
pairs f (a ∷ []) = []
pairs f (a ∷ b ∷ rest) = f a b ∷ pairs f rest

-- the item that two bytes give; a network byte is the first
abbrev pub item_of : Tag → ℕ → ℕ → Item
item_of Network a b = NetworkByte a
item_of Keys a b = KeyPair a b
item_of Asks a b = AskPair a b

-- network bytes are items one by one, key and ask pairs two by two
abbrev pub items_of : Tag → List ℕ → List Item
items_of Network body = map NetworkByte body
items_of Keys body = pairs KeyPair body
items_of Asks body = pairs AskPair body
