-- What stands at the start of the bytes that are left of a text.
use Rattle.std.specs.Prelude.{
  ◌≡◌,
  ℕ,
  ◌≤◌,
  List,
  length,
  take,
  drop,
  slice_index,
}
use Rattle.spf_text.specs.declared.front.Front.{Front}
use Rattle.spf_text.specs.declared.front.Front.TheVariants as front
use Rattle.spf_text.specs.Tokens.{Piece, Blank, Comment, Lexeme, IsPiece, bytes_of, BeginsNothing, BeginsTooLarge}

-- this piece is the first `n` of these bytes
pub record IsFirst (p : Piece) (bytes : List ℕ) (n : ℕ) : Type 0 where
  pub within : n ≤ length bytes
  pub spelled : bytes_of p ≡ take n bytes
  pub piece : IsPiece p (drop n bytes)

-- this is what stands at the start of these bytes
abbrev pub IsFront : List ℕ → Front → Type 0
IsFront bytes front.Blank = IsFirst (Blank (slice_index bytes 0)) bytes 1
IsFront bytes (front.Comment n) = IsFirst (Comment (take n bytes)) bytes n
IsFront bytes (front.Lexeme kind n) = IsFirst (Lexeme kind (take n bytes)) bytes n
IsFront bytes front.TooLarge = BeginsTooLarge bytes
IsFront bytes front.Nothing = BeginsNothing bytes
