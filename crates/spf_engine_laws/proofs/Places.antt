-- Where a plain run stands, by the statements that are done.
use Rattle.std.proofs.Common.{◌≡◌, ℕ, Bool, true, false, List, length, ℤ, refl, sym, ap, ◌∙◌, subst}
use Rattle.std.specs.Prelude.{if◌then◌else◌}
use Rattle.spf_ast.specs.Interaction.{State, Ending, Value, Trapped}
use Rattle.spf_ast.specs.Syntax.{Program, Block, end, on_line, followed_by}
use Rattle.spf_ast.specs.Meaning.{Environment, statement_means, main_means}
use Rattle.spf_ast.specs.Program.{environment_of, start_of, zeros_of}
use Rattle.spf_ast.specs.Construct.{Moment, is_construct}
use Rattle.spf_ast.specs.Pieces.{before_construct, from_construct}
use Rattle.spf_ast_laws.proofs.Plainly.{Comes, Parted, gave, trapped, part, comes-then}
use Rattle.spf_engine_laws.specs.Progress.{IsAt}

-- ---- blocks

pub followed-on : (a b c : Block) → followed_by (followed_by a b) c ≡ followed_by a (followed_by b c)
followed-on end b c = refl
followed-on (on_line line first rest) b c = ap (on_line line first) (followed-on rest b c)

-- the statements up to the first construct, and those from it on
pub whole-again : (b : Block) → followed_by (before_construct b) (from_construct b) ≡ b
whole-again end = refl
whole-again (on_line line first rest) = go (is_construct first) (whole-again rest)
  where
    go : (t : Bool) → followed_by (before_construct rest) (from_construct rest) ≡ rest → followed_by (if t then end else on_line line first (before_construct rest)) (if t then on_line line first rest else from_construct rest) ≡ on_line line first rest
    go true h = refl
    go false h = ap (on_line line first) h

-- ---- what they come to

abbrev state_or : State → Ending (Unit {0}) → State
state_or other (Value u s) = s
state_or other (Trapped t o) = other

same-value : (s t : State) (e d : Ending (Unit {0})) → e ≡ Value tt s → d ≡ Value tt t → e ≡ d → s ≡ t
same-value s t e d p q h = ap (state_or s) (sym p ∙ h ∙ q)

pub comes-on : (g : Environment) (a b : Block) (s mid : State) (m x y : List ℤ) (e : Ending (Unit {0})) → Comes (main_means g a) s m (Value tt mid) x → Comes (main_means g b) mid x e y → Comes (main_means g (followed_by a b)) s m e y
comes-on g end b s mid m x y e p q =
    subst (λ z. Comes (main_means g b) z m e y) (sym (same-value s mid _ _ refl refl p.answer)) (subst (λ z. Comes (main_means g b) mid z e y) (sym p.memory) q)
comes-on g (on_line line first rest) b s mid m x y e p q =
    go (part (statement_means g line first) (λ u. main_means g rest) s m (Value tt mid) x p) (λ between z later. comes-on g rest b between mid z x y e later q)
  where
    go : Parted (statement_means g line first) (λ u. main_means g rest) s m (Value tt mid) x → ((between : State) (z : List ℤ) → Comes (main_means g rest) between z (Value tt mid) x → Comes (main_means g (followed_by rest b)) between z e y) → Comes (main_means g (on_line line first (followed_by rest b))) s m e y
    go (gave u between z one later) further = comes-then (λ w. main_means g (followed_by rest b)) one (further between z later)
    go (trapped t o one wrong) further = cc

-- ---- moments

-- the plain run went on over these statements
pub goes-to : (p : Program) (input : List ℕ) (rest more later : Block) (m : Moment) (state : State) (memory : List ℤ) → IsAt p input rest m → rest ≡ followed_by more later → Comes (main_means (environment_of p input) more) m.state m.memory (Value tt state) memory → IsAt p input later (record { state = state; memory = memory })
goes-to p input rest more later m state memory at parts c =
    let both = comes-on (environment_of p input) at.before more (start_of p) m.state (zeros_of p (length input)) m.memory memory (Value tt state) (record { answer = at.state; memory = at.memory }) c in
    record {
      before = followed_by at.before more;
      parts = followed-on at.before more later ∙ ap (followed_by at.before) (sym parts) ∙ at.parts;
      state = both.answer;
      memory = both.memory;
    }
