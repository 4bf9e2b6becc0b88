-- The commands that build an object of others, a row each: the word, and of how many objects.
use Rattle.std.specs.Prelude.{ℕ, List, [], ◌∷◌, find, string_bytes, codes, Option}
use Rattle.std.specs.Str.{bytes_eq}
use Rattle.pm_command.specs.declared.building.Binary.TheVariants.{Minkowski, Product, Refine}
use Rattle.pm_command.specs.declared.building.Builder.{Builder}
use Rattle.pm_command.specs.declared.building.Builder.TheVariants.{One, Two}
use Rattle.pm_command.specs.declared.building.Building.{Building}
use Rattle.pm_command.specs.declared.building.Building.TheVariants as of
use Rattle.pm_command.specs.declared.building.Unary.TheVariants.{Polar, Pyramid, NormalFan, FaceFan}

-- the word of each
abbrev pub word_of : Builder → List ℕ
word_of (One Polar) = codes "polar"
word_of (One Pyramid) = codes "pyramid"
word_of (One NormalFan) = codes "normalfan"
word_of (One FaceFan) = codes "facefan"
word_of (Two Product) = codes "product"
word_of (Two Minkowski) = codes "minkowski"
word_of (Two Refine) = codes "refine"

abbrev pub every_builder : List Builder
every_builder = One Polar ∷ One Pyramid ∷ One NormalFan ∷ One FaceFan ∷ Two Product ∷ Two Minkowski
    ∷ Two Refine ∷ []

-- the one of this word
abbrev pub builder_named : List ℕ → Option Builder
builder_named word = find (λ b. bytes_eq word (word_of b)) every_builder

-- what is built, and the names of the objects that it is built of
abbrev pub builder_of : Building → Builder
builder_of (of.One what name) = One what
builder_of (of.Two what first second) = Two what

abbrev pub operands_of : Building → List (List ℕ)
operands_of (of.One what name) = string_bytes name ∷ []
operands_of (of.Two what first second) = string_bytes first ∷ string_bytes second ∷ []
