-- The bytes of a printed line.
use Rattle.std.specs.Prelude.{ℕ, List, [], ◌∷◌, ◌++◌, decimal}
use Rattle.std.specs.List.{flat_map}
use Rattle.text.specs.declared.cells.Cell.{Cell}
use Rattle.text.specs.declared.cells.Cell.TheVariants.{Number, Symbol}

-- the bytes of a cell
abbrev pub cell_text : Cell → List ℕ
cell_text (Number n) = decimal n
cell_text (Symbol b) = b ∷ []

-- a cell behind its tab
abbrev pub cell_field : Cell → List ℕ
cell_field c = 9 ∷ cell_text c

-- the cells, parted by tabs, and the line feed that ends them
unfoldable pub line_text : Cell → List Cell → List ℕ
line_text c cs = cell_text c ++ (flat_map cell_field cs ++ (10 ∷ []))
