use Rattle.shop_text.proofs.{ShapeLaw.{orlib_shape, routes_shape}, MatrixShape.taillard_shape}
use Rattle.shop_text.proofs.laws.shapes_of_parts.Goals as goal

pub returns : goal.returns
returns c = record { orlib = orlib_shape; routes = routes_shape; taillard = taillard_shape }
