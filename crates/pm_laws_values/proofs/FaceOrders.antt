-- The faces of a thing in two orders have the same numbers.
use Rattle.pm_laws_values.proofs.ConeOrders.{cone_orders}
use Rattle.pm_laws_values.proofs.FaceNumbers.{f2_same, f_same}
use Rattle.pm_laws_values.specs.FaceNumbers.{FaceNumbersAreOne}

pub face_numbers_are_one : FaceNumbersAreOne
face_numbers_are_one t thing other o q a b ranks others f g =
    let v = (cone_orders t.of other t.cols t.generators t.lines t.cones o a).rays in
    let w = (cone_orders t.of other t.cols t.generators t.lines t.cones q b).rays in
    (f_same t.cols t.generators t.lines o.rays q.rays v w ranks others f g, f2_same t.cols t.generators t.lines o.rays q.rays v w ranks others f g)
