-- What contracts see of the code's table of locals.
use Rattle.std.specs.Prelude.{◌≡◌, ℕ, List, [], ◌∷◌, map, reverse, None}
use denote.Ref.{Bor}
use Rattle.spf_ast.specs.View.{name}
use Rattle.spf_types_names.specs.declared.locals.LocalTable.TheInside.{Inside}
use Rattle.spf_types_names.specs.declared.locals.Visible as code_visible
use Rattle.spf_types_names.specs.Found.{found}
use Rattle.spf_types_names.specs.Locals.{Local, Seen, binding_of}

-- a local
abbrev pub seen_visible : code_visible.Visible → Local
seen_visible v = record { name = v.name.now; slot = v.binding.slot; fixed = v.binding.fixed }

-- no two locals have one name
abbrev pub AreApart : List Local → Type 0
AreApart [] = Unit {0}
AreApart (l ∷ ls) = (binding_of ls l.name ≡ None) × AreApart ls

-- the locals, and the names of the slots
abbrev pub seen_locals : Inside → Seen
seen_locals t = record { locals = reverse (map seen_visible t.visible.items); slots = map name t.slots.items }

-- the table has the local of each name, and no two locals have one name
pub record IsLocalTable (t : Inside) : Type 0 where
  pub finds : (q : Bor (List ℕ)) → found t.table q ≡ binding_of (seen_locals t).locals q.now
  pub apart : AreApart (seen_locals t).locals
