-- The starred bench examples, as one list.
use Rattle.std.specs.Prelude.{◌≡◌, List, [], ◌∷◌, ◌++◌, map, ℕ}
use Rattle.keys.specs.declared.Key.{Key}
use Rattle.keys.specs.declared.Key.TheVariants.{Char, Line}
use Rattle.keys.specs.Keys.{class_of}
use Rattle.bulletin.specs.Session as BS
use Rattle.example_claims.specs.Bytes.{reads, types, hears, paper_of, wire_of, notes_of, bulletin_wire_of}

-- what the rules give, and what the example says
pub record Example : Type 0 where
  pub gives : List ℕ
  pub says : List ℕ

abbrev pub example : List ℕ → List ℕ → Example
example g s = record { gives = g; says = s }

-- WILL BM, and the reply to it
abbrev pub will_bm : List ℕ
will_bm = 0xff ∷ 0xfb ∷ 0x13 ∷ []

abbrev pub do_bm : List ℕ
do_bm = 0xff ∷ 0xfd ∷ 0x13 ∷ []

abbrev pub define_hi : List ℕ
define_hi = 0xff ∷ 0xfa ∷ 0x13 ∷ 0x01 ∷ 0x80 ∷ 0x02 ∷ 0x48 ∷ 0x49 ∷ 0xff ∷ 0xf0 ∷ []

abbrev pub define_wrong_count : List ℕ
define_wrong_count = 0xff ∷ 0xfa ∷ 0x13 ∷ 0x01 ∷ 0x80 ∷ 0x03 ∷ 0x48 ∷ 0x49 ∷ 0xff ∷ 0xf0 ∷ []

abbrev pub define_iac : List ℕ
define_iac = 0xff ∷ 0xfa ∷ 0x13 ∷ 0x01 ∷ 0xff ∷ 0xff ∷ 0x00 ∷ 0xff ∷ 0xf0 ∷ []

abbrev pub define_as_iac : List ℕ
define_as_iac = 0xff ∷ 0xfa ∷ 0x13 ∷ 0x01 ∷ 0x80 ∷ 0x01 ∷ 0xff ∷ 0xff ∷ 0xff ∷ 0xf0 ∷ []

abbrev pub literal_read : List ℕ
literal_read = 0xff ∷ 0xfa ∷ 0x13 ∷ 0x04 ∷ 0x80 ∷ 0xff ∷ 0xf0 ∷ []

-- NAOCRD in force, DS suggested as 0; DR received
abbrev pub sender_handles : List BS.Call
sender_handles = hears (0xff ∷ 0xfb ∷ 0x0a ∷ []) ++ BS.suggest 10 0 4096 ∷ []

abbrev pub sender_handles_wire : List ℕ
sender_handles_wire = 0xff ∷ 0xfd ∷ 0x0a ∷ 0xff ∷ 0xfa ∷ 0x0a ∷ 0x01 ∷ 0x00 ∷ 0xff ∷ 0xf0 ∷ []

abbrev pub receiver_says : ℕ → List BS.Call
receiver_says v = hears (0xff ∷ 0xfa ∷ 0x0a ∷ 0x00 ∷ v ∷ 0xff ∷ 0xf0 ∷ [])

abbrev pub sends_item : Key → List BS.Call
sends_item k = BS.text k 4096 ∷ []

-- RCTE in force, an order to skip text and break at upper case, the break itself, two keys that wait, then a body
abbrev pub rcte_with : List ℕ → List ℕ
rcte_with body = wire_of (reads (0xff ∷ 0xfb ∷ 0x07 ∷ 0xff ∷ 0xfa ∷ 0x07 ∷ 0x0d ∷ 0x00 ∷ 0x01 ∷ 0xff ∷ 0xf0 ∷ []) ++ (types (65 ∷ 97 ∷ 66 ∷ []) ++ reads (0xff ∷ 0xfa ∷ (body ++ 0xff ∷ 0xf0 ∷ []))))

abbrev pub rcte_paper : List ℕ → List ℕ
rcte_paper body = paper_of (reads (0xff ∷ 0xfb ∷ 0x07 ∷ 0xff ∷ 0xfa ∷ 0x07 ∷ 0x0d ∷ 0x00 ∷ 0x01 ∷ 0xff ∷ 0xf0 ∷ []) ++ (types (65 ∷ 97 ∷ 66 ∷ []) ++ reads (0xff ∷ 0xfa ∷ (body ++ 0xff ∷ 0xf0 ∷ []))))

abbrev pub starred : List Example
starred =
    example (map class_of (64 ∷ 9 ∷ 27 ∷ 96 ∷ [])) (8 ∷ 4 ∷ 5 ∷ 8 ∷ [])
    ∷ example (wire_of (reads (will_bm ++ define_hi))) (do_bm ++ 0xff ∷ 0xfa ∷ 0x13 ∷ 0x02 ∷ 0x80 ∷ 0xff ∷ 0xf0 ∷ [])
    ∷ example (paper_of (reads (will_bm ++ (define_hi ++ 0x80 ∷ [])))) (0x48 ∷ 0x49 ∷ [])
    ∷ example (wire_of (reads (will_bm ++ define_wrong_count))) (do_bm ++ 0xff ∷ 0xfa ∷ 0x13 ∷ 0x03 ∷ 0x80 ∷ 0x03 ∷ 0xff ∷ 0xf0 ∷ [])
    ∷ example (wire_of (reads (will_bm ++ define_iac))) (do_bm ++ 0xff ∷ 0xfa ∷ 0x13 ∷ 0x03 ∷ 0xff ∷ 0xff ∷ 0x01 ∷ 0xff ∷ 0xf0 ∷ [])
    ∷ example (wire_of (reads (will_bm ++ (define_as_iac ++ 0x80 ∷ 0xfb ∷ 0x07 ∷ [])))) (do_bm ++ 0xff ∷ 0xfa ∷ 0x13 ∷ 0x02 ∷ 0x80 ∷ 0xff ∷ 0xf0 ∷ 0xff ∷ 0xfd ∷ 0x07 ∷ [])
    ∷ example (paper_of (reads (will_bm ++ literal_read))) (0x80 ∷ [])
    ∷ example (bulletin_wire_of (sender_handles ++ (receiver_says 3 ++ sends_item Line))) (sender_handles_wire ++ 0x0d ∷ 0x0a ∷ 0 ∷ 0 ∷ 0 ∷ [])
    ∷ example (bulletin_wire_of (sender_handles ++ (receiver_says 3 ++ sends_item (Char 13)))) (sender_handles_wire ++ 0x0d ∷ 0 ∷ 0 ∷ 0 ∷ 0 ∷ [])
    ∷ example (bulletin_wire_of (sender_handles ++ (receiver_says 252 ++ sends_item Line))) (sender_handles_wire ++ 0x0a ∷ [])
    ∷ example (bulletin_wire_of (sender_handles ++ sends_item Line)) (sender_handles_wire ++ 0x0d ∷ 0x0a ∷ [])
    ∷ example (rcte_with (7 ∷ 2 ∷ [])) (0xff ∷ 0xfd ∷ 0x07 ∷ 0x41 ∷ 0x61 ∷ 0x42 ∷ [])
    ∷ example (rcte_with (7 ∷ 2 ∷ [])) (rcte_with (7 ∷ 0 ∷ []))
    ∷ example (rcte_paper (7 ∷ 2 ∷ [])) (0x41 ∷ 0x42 ∷ [])
    ∷ example (rcte_paper (7 ∷ 2 ∷ [])) (rcte_paper (7 ∷ 0 ∷ []))
    ∷ example (notes_of (reads (0xff ∷ 0xfb ∷ 0x07 ∷ 0xff ∷ 0xfa ∷ 0x07 ∷ 0x02 ∷ 0x00 ∷ 0x00 ∷ 0xff ∷ 0xf0 ∷ []))) (0 ∷ 0 ∷ 0 ∷ 0 ∷ 0 ∷ 0 ∷ 0 ∷ 0 ∷ 0 ∷ 0 ∷ 1 ∷ [])
    ∷ []

-- Assumed: nothing. Promised: by computation, the rules give what the starred examples say. Ruled out: rules that
-- refuse everything or print nothing; a DEFINE whose doubled IAC counts as two.
abbrev pub StarredHold : Type 0
StarredHold = map (λ e. e.gives) starred ≡ map (λ e. e.says) starred
