-- Words and lines: what they speak, and what they do not.
use Rattle.std.specs.Prelude.{◌≡◌, true, false, [], ◌∷◌, Some, None, codes}
use Rattle.pm_command.specs.Commands.{build_object, command_of, cross_shape, cube_shape, cyclic_shape, make_object, show_object, simplex_shape, tell_evidence}
use Rattle.pm_command.specs.Words.{are_asked}
use Rattle.pm_command.specs.declared.building.Binary.TheVariants.{Minkowski, Product, Refine}
use Rattle.pm_command.specs.declared.building.Builder.TheVariants.{One, Two}
use Rattle.pm_command.specs.declared.building.Unary.TheVariants.{FaceFan, NormalFan, Polar, Pyramid}

pub record CommandsAreRead : Type 0 where
  pub four : are_asked (codes "A" ∷ codes "B" ∷ codes "A" ∷ codes "C" ∷ codes "D" ∷ []) ≡ true
  pub not_five : are_asked (codes "A" ∷ codes "B" ∷ codes "C" ∷ codes "D" ∷ codes "E" ∷ []) ≡ false
  pub no_words : are_asked (codes "a" ∷ []) ≡ false
  pub cube : command_of (codes "make t cube 3") ≡ Some (make_object (codes "t") (cube_shape 3))
  pub simplex : command_of (codes "make t simplex 10") ≡ Some (make_object (codes "t") (simplex_shape 10))
  pub cross : command_of (codes "make t cross 9999") ≡ Some (make_object (codes "t") (cross_shape 9999))
  pub cyclic : command_of (codes "make t cyclic 3 12") ≡ Some (make_object (codes "t") (cyclic_shape 3 12))
  pub polar : command_of (codes "polar t p") ≡ Some (build_object (One Polar) (codes "t" ∷ []) (codes "p"))
  pub pyramid : command_of (codes "pyramid t p")
      ≡ Some (build_object (One Pyramid) (codes "t" ∷ []) (codes "p"))
  pub normal_fan : command_of (codes "normalfan t f")
      ≡ Some (build_object (One NormalFan) (codes "t" ∷ []) (codes "f"))
  pub face_fan : command_of (codes "facefan t f")
      ≡ Some (build_object (One FaceFan) (codes "t" ∷ []) (codes "f"))
  pub product : command_of (codes "product s t p")
      ≡ Some (build_object (Two Product) (codes "s" ∷ codes "t" ∷ []) (codes "p"))
  pub minkowski : command_of (codes "minkowski s t p")
      ≡ Some (build_object (Two Minkowski) (codes "s" ∷ codes "t" ∷ []) (codes "p"))
  pub refine : command_of (codes "refine s t f")
      ≡ Some (build_object (Two Refine) (codes "s" ∷ codes "t" ∷ []) (codes "f"))
  pub show : command_of (codes "show t") ≡ Some (show_object (codes "t"))
  pub evidence : command_of (codes "evidence t dd_facets")
      ≡ Some (tell_evidence (codes "t") (codes "dd_facets"))

pub record NoCommandsAreRead : Type 0 where
  pub zero_cube : command_of (codes "make t cube 0") ≡ None
  pub leading_zero : command_of (codes "make t cube 01") ≡ None
  pub too_large : command_of (codes "make t cube 10000") ≡ None
  pub signed : command_of (codes "make t cube +3") ≡ None
  pub no_number : command_of (codes "make t cube") ≡ None
  pub two_of_one : command_of (codes "make t cube 3 4") ≡ None
  pub one_of_two : command_of (codes "make t cyclic 3") ≡ None
  pub three_of_two : command_of (codes "make t cyclic 3 4 5") ≡ None
  pub prism : command_of (codes "make t prism 3") ≡ None
  pub no_name : command_of (codes "make cube 3") ≡ None
  pub part : command_of (codes "make t.u cube 3") ≡ None
  pub doubled : command_of (codes "make t  cube 3") ≡ None
  pub doubled_before : command_of (codes "make  t cube 3") ≡ None
  pub doubled_behind : command_of (codes "make t cube  3") ≡ None
  pub trailing : command_of (codes "make t cube 3 ") ≡ None
  pub polar_alone : command_of (codes "polar t") ≡ None
  pub polar_of_part : command_of (codes "polar t.u p") ≡ None
  pub pyramid_doubled : command_of (codes "pyramid t  p") ≡ None
  pub fan_apart : command_of (codes "normal fan t f") ≡ None
  pub fan_of_two : command_of (codes "facefan s t f") ≡ None
  pub show_of_part : command_of (codes "show t.u") ≡ None
  pub show_two : command_of (codes "show s t") ≡ None
  pub evidence_alone : command_of (codes "evidence t") ≡ None
  pub evidence_of_part : command_of (codes "evidence t.u dd_facets") ≡ None
  pub product_of_one : command_of (codes "product t p") ≡ None
  pub product_doubled : command_of (codes "product s  t p") ≡ None
