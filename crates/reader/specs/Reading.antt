-- One byte read: what it completes and where the reader then stands.
use Rattle.std.specs.Prelude.{Bool, true, false, not, ◌&&◌, cond, List, [], ◌∷◌, ◌++◌, ℕ, length, ltb, eqb}
use Rattle.codes.specs.Telnet.{IAC, SB, SE, plain_command, WILL, WONT, DO, DONT}
use Rattle.codes.specs.declared.Verb.{Verb}
use Rattle.codes.specs.declared.Verb.TheVariants.{Will, Wont, Do, Dont}
use Rattle.reader.specs.declared.Phase.{Phase}
use Rattle.reader.specs.declared.Phase.TheVariants.{Between, AfterIac, AfterVerb, InBody, InBodyAfterIac}
use Rattle.reader.specs.declared.Item.{Item}
use Rattle.reader.specs.declared.Item.TheVariants.{Nothing, Data, Negotiated, BodyEnd, StrayCommand}

pub record ReaderState : Type 0 where
  pub phase : Phase
  pub marred : Bool
  pub body : List ℕ

pub record ReadEffect : Type 0 where
  pub item : Item
  pub reader : ReaderState

abbrev pub idle : ReaderState
idle = record { phase = Between; marred = false; body = [] }

abbrev pub in_phase : ReaderState → Phase → ReaderState
in_phase r p = record { phase = p; marred = r.marred; body = r.body }

-- how many bytes of a body are kept
abbrev pub body_room : ℕ
body_room = 260

unfoldable pub keeping : ReaderState → ℕ → ReaderState
keeping r b = record { phase = InBody; marred = r.marred; body = cond (ltb (length r.body) body_room) (r.body ++ b ∷ []) r.body }

-- IAC with a byte that is neither IAC nor SE mars the body; both are dropped
abbrev pub marring : ReaderState → ReaderState
marring r = record { phase = InBody; marred = true; body = r.body }

abbrev pub gives : Item → ReaderState → ReadEffect
gives i r = record { item = i; reader = r }

abbrev pub goes : Phase → ReaderState → ReadEffect
goes p r = gives Nothing (in_phase r p)

unfoldable pub command_read : ReaderState → ℕ → ReadEffect
command_read r b =
    cond (eqb b IAC) (gives (Data IAC) (in_phase r Between))
    (cond (eqb b SB) (goes InBody idle)
    (cond (eqb b WILL) (goes (AfterVerb Will) r)
    (cond (eqb b WONT) (goes (AfterVerb Wont) r)
    (cond (eqb b DO) (goes (AfterVerb Do) r)
    (cond (eqb b DONT) (goes (AfterVerb Dont) r)
    (cond (plain_command b) (goes Between r)
    (gives StrayCommand (in_phase r Between))))))))

unfoldable pub body_command_read : ReaderState → ℕ → ReadEffect
body_command_read r b =
    cond (eqb b IAC) (gives Nothing (keeping r IAC))
    (cond (eqb b SE) (gives BodyEnd (in_phase r Between))
    (gives Nothing (marring r)))

abbrev pub read_in : Phase → ReaderState → ℕ → ReadEffect
read_in Between r b = cond (eqb b IAC) (goes AfterIac r) (gives (Data b) r)
read_in AfterIac r b = command_read r b
read_in (AfterVerb v) r b = gives (Negotiated v b) (in_phase r Between)
read_in InBody r b = cond (eqb b IAC) (goes InBodyAfterIac r) (gives Nothing (keeping r b))
read_in InBodyAfterIac r b = body_command_read r b

unfoldable pub read : ReaderState → ℕ → ReadEffect
read r b = read_in r.phase r b

abbrev pub is_between : Phase → Bool
is_between Between = true
is_between AfterIac = false
is_between (AfterVerb v) = false
is_between InBody = false
is_between InBodyAfterIac = false

-- a byte that is data as it stands: no command is being read, and it begins none
abbrev pub is_data : Phase → ℕ → Bool
is_data p b = not (eqb b IAC) && is_between p

-- the first check on a body: one that is marred or empty is unreadable; another is handled by its option, its first byte
unfoldable pub by_option : {D : Type 0} → Bool → List ℕ → D → (ℕ → D) → D
by_option true body unreadable handled = unreadable
by_option false [] unreadable handled = unreadable
by_option false (option ∷ rest) unreadable handled = handled option

-- an item by what an end does with it
abbrev pub item_by : {D : Type 0} → (nothing : D) → (ℕ → D) → (Verb → ℕ → D) → (body_end stray : D) → Item → D
item_by nothing data_read negotiated body_end stray Nothing = nothing
item_by nothing data_read negotiated body_end stray (Data b) = data_read b
item_by nothing data_read negotiated body_end stray (Negotiated v option) = negotiated v option
item_by nothing data_read negotiated body_end stray BodyEnd = body_end
item_by nothing data_read negotiated body_end stray StrayCommand = stray

-- a byte read by an end: the item that it completes, handled in the state that has the reader as the byte left it
abbrev pub byte_by : {S D : Type 0} → (S → ReaderState → S) → (S → Item → D) → S → ReadEffect → D
byte_by with_reader handled s r = handled (with_reader s r.reader) r.item
