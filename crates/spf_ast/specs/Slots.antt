-- Which slots blocks and parts declare and assign, and whether they emit.
use Rattle.std.specs.Prelude.{◌≡◌, ℕ, Bool, true, false, not, ◌==◌, ◌||◌, List, [], ◌∷◌, ℤ, slice_get}
use Rattle.spf_ast.specs.declared.syntax.Part.{Part}
use Rattle.spf_ast.specs.declared.syntax.Part.TheVariants.{Body, Producer, Consumer, Predictor}
use Rattle.spf_ast.specs.Syntax.{Statement, Let, Assign, Emit, If, For, While, Fold, Pair, Break, Block, end, on_line}
use Rattle.spf_ast.specs.Construct.{Construct, fold, pair, statements_of}

-- Whether some statement passes a test, at any depth: the question is answered for a statement from the answer for the
-- blocks within it.
abbrev mutual
  pub in_statement : (Statement → Bool → Bool) → Statement → Bool
  in_statement ask (If c first second) = ask (If c first second) (in_block ask first || in_block ask second)
  in_statement ask (For slot low high body) = ask (For slot low high body) (in_block ask body)
  in_statement ask (While c most body) = ask (While c most body) (in_block ask body)
  in_statement ask (Fold head body) = ask (Fold head body) (in_block ask body)
  in_statement ask (Pair head producer consumer) = ask (Pair head producer consumer) (in_block ask producer || in_block ask consumer)
  in_statement ask other = ask other false

  pub in_block : (Statement → Bool → Bool) → Block → Bool
  in_block ask end = false
  in_block ask (on_line line first rest) = in_statement ask first || in_block ask rest

-- a slot that passes the test is assigned, here or within
abbrev assigns_here : (ℕ → Bool) → Statement → Bool → Bool
assigns_here test (Assign slot value) within = test slot
assigns_here test _ within = within

abbrev pub statement_assigns : (ℕ → Bool) → Statement → Bool
statement_assigns test = in_statement (assigns_here test)

abbrev pub assigns : (ℕ → Bool) → Block → Bool
assigns test = in_block (assigns_here test)

-- a slot is one of these
abbrev pub is_among : ℕ → List ℕ → Bool
is_among slot [] = false
is_among slot (first ∷ rest) = (slot == first) || is_among slot rest

-- this slot is declared, here or within
abbrev declares_here : ℕ → Statement → Bool → Bool
declares_here x (Let slot value) within = x == slot
declares_here x (For slot low high body) within = (x == slot) || within
declares_here x (Fold head body) within = is_among x head.carried || ((x == head.block) || within)
declares_here x (Pair head producer consumer) within = is_among x head.carried || within
declares_here x _ within = within

abbrev pub statement_declares : ℕ → Statement → Bool
statement_declares x = in_statement (declares_here x)

abbrev pub declares : ℕ → Block → Bool
declares x = in_block (declares_here x)

-- a slot is assigned that is declared outside of the block
abbrev pub assigns_outer : Block → Bool
assigns_outer b = assigns (λ slot. not (declares slot b)) b

-- a byte is emitted, here or within
abbrev emits_here : Statement → Bool → Bool
emits_here (Emit value) within = true
emits_here _ within = within

abbrev pub statement_emits : Statement → Bool
statement_emits = in_statement emits_here

abbrev pub emits : Block → Bool
emits = in_block emits_here

-- a `break` stands here that ends a loop around: in the block itself or in its choices, and in no loop or construct of it
abbrev breaks_here : Statement → Bool → Bool
breaks_here Break within = true
breaks_here (If c first second) within = within
breaks_here _ within = false

abbrev pub statement_breaks : Statement → Bool
statement_breaks = in_statement breaks_here

abbrev pub breaks : Block → Bool
breaks = in_block breaks_here

-- ---- parts

-- a part declares the slot: in its statements, or as its block name or its carried name
abbrev pub part_declares : Construct → Part → ℕ → Bool
part_declares (fold line head body) Body slot = is_among slot head.carried || ((slot == head.block) || declares slot body)
part_declares (fold line head body) Predictor slot = slot == head.block
part_declares (pair line head producer consumer) Producer slot = declares slot producer
part_declares (pair line head producer consumer) Consumer slot = is_among slot head.carried || declares slot consumer
part_declares _ _ slot = false

-- a part assigns the slot
abbrev pub part_assigns : Construct → Part → ℕ → Bool
part_assigns construct part slot = assigns (λ other. other == slot) (statements_of construct part)

-- a run of the part left each slot as it was that the part neither declares nor assigns
abbrev pub LeavesOtherSlots : Construct → Part → List ℤ → List ℤ → Type 0
LeavesOtherSlots construct part before after =
    (slot : ℕ) → part_declares construct part slot ≡ false → part_assigns construct part slot ≡ false → slice_get after slot ≡ slice_get before slot
